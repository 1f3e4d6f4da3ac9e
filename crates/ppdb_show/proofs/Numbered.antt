-- The lines of the rows of a table, by their numbers.
use Rattle.std.proofs.Common.{ℕ, zero, suc, ◌+◌, ◌-◌, ◌≡◌, ◌<◌, ◌≤◌, List, [], ◌∷◌, ◌++◌, length, map, refl, sym, ◌∙◌, ap, arith, slice_get, append_assoc, inl, inr}
use Rattle.std.{specs.Prelude.{Option, Some, None}, specs.List.{flat_map, range_with_len, enumerate_from}, proofs.lemmas.Option.{slice_get_cases, slice_get_within}}
use Rattle.ppdb_tables.specs.RawTables.{RawTables, HasShape, numbered, row_at, count}
use Rattle.ppdb_values.specs.{Documents.{document_of, method_of}, Imports.{import_scope_of}, Value.{variable_of}}
use Rattle.ppdb_show.specs.declared.show.{rows.Rows.{Rows}, rows.Rows.TheVariants.{Documents, Methods, Scopes, Imports, Machines, Customs}, owned.Owned.{Owned}}
use Rattle.ppdb_show.specs.{declared.show.owned.Owned.TheVariants.{Variables, Constants}, Show.{document_line, lines_of_method, scope_line, variable_line}}
use Rattle.ppdb_show.specs.{Show.{constant_line, lines_of_import, machine_line, custom_line, scope_of_item}, ShowWalk.{made_of, between, number_of, lines_of_row}}
use Rattle.ppdb_show.specs.ShowWalk.{lines_of_table, items_of, item_table, lines_of_item, lines_of_items}
use Rattle.ppdb_show_lines.{specs.Lines.{Line}, specs.declared.form.Form.{Form}, specs.Forms.{lines_as}, proofs.Texts.{more_lines}}

rows_from : {X : Type 0} (lines : ℕ → X → List Line) (at : ℕ → Option X) (k : ℕ) (rows : List X) → ((i : ℕ) → at (k + i) ≡ slice_get rows i)
    → flat_map (λ row. lines row.0 row.1) (enumerate_from k rows) ≡ flat_map (λ n. made_of (lines n) (at n)) (range_with_len k (length rows))
rows_from lines at k [] h = refl
rows_from lines at k (x ∷ xs) h =
    let e : k + 0 ≡ k = omega arith in
    let here : at k ≡ Some x = rw e at (h 0) in
    let later : (i : ℕ) → at (k + 1 + i) ≡ slice_get xs i = λ i. let s : k + 1 + i ≡ k + suc i = omega arith in rw s (h (suc i)) in
    rw here (ap (λ (rest : List Line). lines k x ++ rest) (rows_from lines at (k + 1) xs later))

first_row : {X : Type 0} (rows : List X) (i : ℕ) → row_at rows (1 + i) ≡ slice_get rows i
first_row rows i = let e : 1 + i ≡ suc i = omega arith in rw e refl

-- by the numbers from 1 on
rows_between : {X : Type 0} (lines : ℕ → X → List Line) (rows : List X) (n : ℕ) → length rows ≡ n
    → flat_map (λ row. lines row.0 row.1) (numbered rows) ≡ between (λ row. made_of (lines row) (row_at rows row)) 1 (n + 1)
rows_between lines rows n e =
    let s : n + 1 - 1 ≡ length rows = omega (arith, e) in
    rw s (rows_from lines (row_at rows) 1 rows (first_row rows))

one_each : {X : Type 0} (f : X → Line) (xs : List X) → map f xs ≡ flat_map (λ x. f x ∷ []) xs
one_each f [] = refl
one_each f (x ∷ xs) = ap (λ (rest : List Line). f x ∷ rest) (one_each f xs)

pub table_between : (raw : RawTables) (rows : Rows) → HasShape raw
    → lines_of_table raw rows ≡ between (lines_of_row raw rows) 1 (count raw (number_of rows) + 1)
table_between raw Documents shape = one_each (λ row. document_line row.0 (document_of raw row.1)) (numbered raw.documents)
    ∙ rows_between (λ row document. document_line row (document_of raw document) ∷ []) raw.documents _ shape.documents
table_between raw Methods shape = rows_between (λ row method. lines_of_method (method_of raw (row, method))) raw.methods _ shape.methods
table_between raw Scopes shape =
    one_each (λ row. scope_line row.0 row.1) (numbered raw.scopes) ∙ rows_between (λ row scope. scope_line row scope ∷ []) raw.scopes _ shape.scopes
table_between raw Imports shape = rows_between (λ row import. lines_of_import row (import_scope_of raw import)) raw.imports _ shape.imports
table_between raw Machines shape = one_each (λ row. machine_line row.0 row.1) (numbered raw.machines)
    ∙ rows_between (λ row machine. machine_line row machine ∷ []) raw.machines _ shape.machines
table_between raw Customs shape = one_each (λ row. custom_line raw row.0 row.1) (numbered raw.customs)
    ∙ rows_between (λ row custom. custom_line raw row custom ∷ []) raw.customs _ shape.customs

pub items_between : (raw : RawTables) (owned : Owned) → lines_of_items raw owned ≡ between (lines_of_item raw owned) 1 (items_of raw owned + 1)
items_between raw Variables =
    one_each (λ row. variable_line row.0 (scope_of_item (λ scope. scope.variables) raw row.0) (variable_of raw row.1)) (numbered raw.variables)
    ∙ rows_between (λ row variable. variable_line row (scope_of_item (λ scope. scope.variables) raw row) (variable_of raw variable) ∷ []) raw.variables _ refl
items_between raw Constants =
    one_each (λ row. constant_line raw row.0 (scope_of_item (λ scope. scope.constants) raw row.0) row.1) (numbered raw.constants)
    ∙ rows_between (λ row constant. constant_line raw row (scope_of_item (λ scope. scope.constants) raw row) constant ∷ []) raw.constants _ refl

-- numbers in two parts
numbers_split : (a n m : ℕ) → range_with_len a (n + m) ≡ range_with_len a n ++ range_with_len (a + n) m
numbers_split a zero m =
    let e : zero + m ≡ m = omega arith in
    let s : a + zero ≡ a = omega arith in
    rw (e, s) refl
numbers_split a (suc n) m =
    let e : suc n + m ≡ suc (n + m) = omega arith in
    let s : a + suc n ≡ a + 1 + n = omega arith in
    rw (e, s) (ap (λ (ns : List ℕ). a ∷ ns) (numbers_split (a + 1) n m))

flat_split : (lines : ℕ → List Line) (xs ys : List ℕ) → flat_map lines (xs ++ ys) ≡ flat_map lines xs ++ flat_map lines ys
flat_split lines [] ys = refl
flat_split lines (x ∷ xs) ys =
    ap (λ (rest : List Line). lines x ++ rest) (flat_split lines xs ys) ∙ sym (append_assoc (lines x) (flat_map lines xs) (flat_map lines ys))

pub between_split : (lines : ℕ → List Line) (a b c : ℕ) → a ≤ b → b ≤ c → between lines a c ≡ between lines a b ++ between lines b c
between_split lines a b c h k =
    let e : c - a ≡ (b - a) + (c - b) = omega (arith, h, k) in
    let s : a + (b - a) ≡ b = omega (arith, h) in
    rw e (ap (flat_map lines) (rw s at (numbers_split a (b - a) (c - b))) ∙ flat_split lines (range_with_len a (b - a)) (range_with_len b (c - b)))

-- ---- rows that are there, and rows that are not

pub row_past : {X : Type 0} (rows : List X) (row : ℕ) → length rows < row → row_at rows row ≡ None
row_past rows zero h = absurd (omega (arith, h))
row_past rows (suc i) h = elim (slice_get_cases rows i).1 [
  | inl x ↦ let in_range = slice_get_within rows i x.0 x.2 in absurd (omega (arith, h, in_range))
  | inr past ↦ past.1
]

-- the lines of items in two parts
pub split_lines : (form : Form) (lines : ℕ → List Line) (a b c : ℕ) → a ≤ b → b ≤ c → lines_as form (between lines a c) ≡ lines_as form (between lines a b)
    ++ lines_as form (between lines b c)
split_lines form lines a b c h k = ap (lines_as form) (between_split lines a b c h k) ∙ more_lines form (between lines a b) (between lines b c)

pub items_counted : (raw : RawTables) (owned : Owned) → HasShape raw → items_of raw owned ≡ count raw (item_table owned)
items_counted raw Variables shape = shape.variables
items_counted raw Constants shape = shape.constants
