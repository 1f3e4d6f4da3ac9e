-- Lines, one after the other, in a form.
use Rattle.std.proofs.Common.{ℕ, suc, ◌+◌, ◌-◌, ◌≡◌, ◌≢◌, ◌<◌, ◌≤◌, List, [], ◌∷◌, ◌++◌, length, map, true, false, ◌==◌, refl, ◌∙◌, ap, arith}
use Rattle.std.specs.{Prelude.{Some}, List.{flat_map, range_with_len}}
use Rattle.blob_grammar.specs.Reader.{tail}
use Rattle.type_blobs.specs.Imports.{ImportItem}
use Rattle.ppdb_tables.specs.{declared.rows.MethodDebugRow.{MethodDebugRow}, declared.rows.ImportRow.{ImportRow}, RawTables.{RawTables, row_at, count}}
use Rattle.ppdb_values.specs.{RawFile.{RawFile, blob}, Documents.{method_with, points_in, signature_in}, Imports.{import_value, import_scope_of}}
use Rattle.ppdb_show_lines.{specs.declared.form.Form.{Form}, specs.Lines.{Line, line_with, bare, named, number}, proofs.Texts.{no_lines, more_lines}}
use Rattle.ppdb_show_lines.specs.{Forms.{lines_as}, Heads.{id_line, entry_line}, Uses.{use_line}}
use Rattle.ppdb_show.specs.{Show.{lines_of_method, point_line, count_lines, count_lines_of, head_lines, row_lines}, declared.show.rows.Rows.TheVariants.{Documents}}
use Rattle.ppdb_show.specs.declared.show.{rows.Rows.TheVariants.{Methods, Scopes, Imports, Machines, Customs}, owned.Owned.TheVariants.{Variables, Constants}}
use Rattle.ppdb_show.specs.ShowWalk.{between, lines_of_method_row, lines_of_import_row, lines_of_table, lines_of_items}

range_first : (row end : ℕ) → row < end → range_with_len row (end - row) ≡ row ∷ range_with_len (row + 1) (end - (row + 1))
range_first row end h = let e : end - row ≡ suc (end - (row + 1)) = omega arith in rw e refl

-- the lines of the first of some rows, and of the others
pub next_row : (form : Form) (lines : ℕ → List Line) (row end : ℕ) → row < end
    → lines_as form (between lines row end) ≡ lines_as form (lines row) ++ lines_as form (between lines (row + 1) end)
next_row form lines row end h =
    ap (λ (rows : List ℕ). lines_as form (flat_map lines rows)) (range_first row end h) ∙ more_lines form (lines row) (between lines (row + 1) end)

pub last_row : (form : Form) (lines : ℕ → List Line) (row end : ℕ) → end ≤ row → lines_as form (between lines row end) ≡ []
last_row form lines row end h = let e : end - row ≡ 0 = omega arith in rw e (no_lines form)

-- ---- items in order

pub mapped_step : {X : Type 0} (form : Form) (f : X → Line) (items : List X) (x : X) → items ≡ x ∷ tail items
    → lines_as form (map f items) ≡ lines_as form (f x ∷ []) ++ lines_as form (map f (tail items))
mapped_step form f items x e = ap (λ (xs : List _). lines_as form (map f xs)) e ∙ more_lines form (f x ∷ []) (map f (tail items))

pub mapped_done : {X : Type 0} (form : Form) (f : X → Line) (items : List X) → items ≡ [] → lines_as form (map f items) ≡ []
mapped_done form f items e = ap (λ (xs : List _). lines_as form (map f xs)) e ∙ no_lines form

pub uses_step : (form : Form) (items : List ImportItem) (x : ImportItem) → items ≡ x ∷ tail items
    → lines_as form (map use_line (map import_value items)) ≡ lines_as form (use_line (import_value x) ∷ [])
    ++ lines_as form (map use_line (map import_value (tail items)))
uses_step form items x e =
    ap (λ (xs : List ImportItem). lines_as form (map use_line (map import_value xs))) e
    ∙ more_lines form (use_line (import_value x) ∷ []) (map use_line (map import_value (tail items)))

pub uses_done : (form : Form) (items : List ImportItem) → items ≡ [] → lines_as form (map use_line (map import_value items)) ≡ []
uses_done form items e = ap (λ (xs : List ImportItem). lines_as form (map use_line (map import_value xs))) e ∙ no_lines form

-- ---- a method, and an import scope

pub is_nil : (xs : List ℕ) → (length xs == 0) ≡ true → xs ≡ []
is_nil [] h = refl
is_nil (x ∷ xs) h = absurd (grind (arith, h))

pub not_nil : (xs : List ℕ) → (length xs == 0) ≡ false → xs ≢ []
not_nil [] h e = grind (arith, h)
not_nil (x ∷ xs) h e = grind (arith, e)

pub no_method : (form : Form) (raw : RawTables) (row : ℕ) (method : MethodDebugRow) → row_at raw.methods row ≡ Some method → blob raw method.points ≡ []
    → lines_as form (lines_of_method_row raw row) ≡ []
no_method form raw row method e nil = rw (e, nil) (no_lines form)

abbrev pub method_line : ℕ → ℕ → Line
method_line method signature = line_with "method" (bare "method" (number method) ∷ named "signature" (number signature) ∷ [])

abbrev pub import_line : ℕ → ℕ → Line
import_line row parent = line_with "import" (bare "row" (number row) ∷ named "parent" (number parent) ∷ [])

with_points : (raw : RawTables) (row column signature : ℕ) (content : List ℕ) → content ≢ [] → signature_in raw column content ≡ Some signature
    → lines_of_method (method_with raw row column content) ≡ method_line row signature ∷ map point_line (points_in raw column content)
with_points raw row column signature [] some e = absurd (some refl)
with_points raw row column signature (b ∷ bs) some e = rw e refl

pub method_text : (form : Form) (raw : RawTables) (row : ℕ) (method : MethodDebugRow) (signature : ℕ) → row_at raw.methods row ≡ Some method
    → blob raw method.points ≢ []
    → signature_in raw method.document (blob raw method.points) ≡ Some signature
    → lines_as form (lines_of_method_row raw row) ≡ lines_as form (method_line row signature ∷ [])
    ++ lines_as form (map point_line (points_in raw method.document (blob raw method.points)))
method_text form raw row method signature e some signed =
    rw e (ap (lines_as form) (with_points raw row method.document signature (blob raw method.points) some signed)
    ∙ more_lines form (method_line row signature ∷ []) (map point_line (points_in raw method.document (blob raw method.points))))

pub import_text : (form : Form) (raw : RawTables) (row : ℕ) (import : ImportRow) → row_at raw.imports row ≡ Some import
    → lines_as form (lines_of_import_row raw row) ≡ lines_as form (import_line row import.parent ∷ [])
    ++ lines_as form (map use_line (import_scope_of raw import).imports)
import_text form raw row import e = rw e (more_lines form (import_line row import.parent ∷ []) (map use_line (import_scope_of raw import).imports))

-- ---- the whole file

pub counts_between : (form : Form) (raw : RawTables) → lines_as form (count_lines raw) ≡ lines_as form (between (count_lines_of raw) 0 0x2d)
unfolding count_lines
counts_between form raw = refl

pub no_count : (form : Form) (raw : RawTables) (table : ℕ) → count raw table ≡ 0 → lines_as form (count_lines_of raw table) ≡ []
no_count form raw table e = rw e (no_lines form)

pub head_text : (form : Form) (raw : RawFile) → lines_as form (head_lines raw)
    ≡ lines_as form (id_line raw.id ∷ []) ++ (lines_as form (entry_line raw.entry ∷ []) ++ lines_as form (count_lines raw.tables))
head_text form raw =
    more_lines form (id_line raw.id ∷ []) (entry_line raw.entry ∷ count_lines raw.tables)
    ∙ ap (λ (t : List ℕ). lines_as form (id_line raw.id ∷ []) ++ t) (more_lines form (entry_line raw.entry ∷ []) (count_lines raw.tables))

rows_in : (form : Form) (a b c d e f g h : List Line) → lines_as form (a ++ (b ++ (c ++ (d ++ (e ++ (f ++ (g ++ h)))))))
    ≡ lines_as form a ++ (lines_as form b ++ (lines_as form c
    ++ (lines_as form d ++ (lines_as form e ++ (lines_as form f ++ (lines_as form g ++ lines_as form h))))))
rows_in form a b c d e f g h =
    rw (
      more_lines form a (b ++ (c ++ (d ++ (e ++ (f ++ (g ++ h)))))),
      more_lines form b (c ++ (d ++ (e ++ (f ++ (g ++ h))))),
      more_lines form c (d ++ (e ++ (f ++ (g ++ h)))),
      more_lines form d (e ++ (f ++ (g ++ h))),
      more_lines form e (f ++ (g ++ h)),
      more_lines form f (g ++ h),
      more_lines form g h,
    ) refl

pub rows_text : (form : Form) (raw : RawTables) → lines_as form (row_lines raw)
    ≡ lines_as form (lines_of_table raw Documents) ++ (lines_as form (lines_of_table raw Methods) ++ (lines_as form (lines_of_table raw Scopes)
    ++ (lines_as form (lines_of_items raw Variables) ++ (lines_as form (lines_of_items raw Constants) ++ (lines_as form (lines_of_table raw Imports)
    ++ (lines_as form (lines_of_table raw Machines) ++ lines_as form (lines_of_table raw Customs)))))))
rows_text form raw =
    rows_in form (lines_of_table raw Documents) (lines_of_table raw Methods) (lines_of_table raw Scopes) (lines_of_items raw Variables)
    (lines_of_items raw Constants) (lines_of_table raw Imports) (lines_of_table raw Machines) (lines_of_table raw Customs)
