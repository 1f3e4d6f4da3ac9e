-- Runs of rows, one row after the other.
use Rattle.std.proofs.Common.{◌≡◌, ℕ, zero, suc, ◌+◌, ◌-◌, ◌<◌, List, [], ◌∷◌, length, map, take, drop, refl, arith, sym, ap, ◌∙◌, slice_range, Bool, true, false}
use Rattle.std.{proofs.Common.{cond}, specs.Prelude.{Some, slice_get, ◌&&◌, ◌==◌}, specs.List.{filter, enumerate_from}, proofs.lemmas.List.{length-take}}
use Rattle.std.proofs.lemmas.{List.{length-drop, length-map}, List.FromFn.{length-enumerate_from}}
use Rattle.ppdb_tables.specs.{declared.rows.ScopeRow.{ScopeRow}, RawTables.{RawTables, numbered, row_at}}
use Rattle.ppdb_queries.specs.{declared.run.Run.{Run}, Runs.{IsRunOf, rows_in}, Scopes.{scope_view, scopes_at, scope_count, views_between}}
use Rattle.ppdb_queries.proofs.Filters.{forward}
use Rattle.ppdb_values.specs.{Parts.{holds}, Value.{range_of}}

-- the first of a range, and the rest
range_step : {Y : Type 0} (ys : List Y) (a b : ℕ) (y : Y) → slice_get ys a ≡ Some y → a < b → take (b - a) (drop a ys) ≡ y ∷ take (b - (a + 1))
    (drop (a + 1) ys)
range_step [] a b y e h = cc
range_step (z ∷ zs) zero zero y e h = absurd (omega arith)
range_step (z ∷ zs) zero (suc b) y e h =
    let d : suc b - 0 ≡ suc b = omega arith in
    let f : suc b - (0 + 1) ≡ b = omega arith in
    let same : z ≡ y = cc in
    rw (d, f) (ap (λ first. first ∷ take b zs) same)
range_step (z ∷ zs) (suc a) zero y e h = absurd (omega arith)
range_step (z ∷ zs) (suc a) (suc b) y e h =
    let d : suc b - suc a ≡ b - a = omega arith in
    let f : suc b - (suc a + 1) ≡ b - (a + 1) = omega arith in
    let k : suc a + 1 ≡ suc (a + 1) = omega arith in
    rw (d, f, k) (range_step zs a b y e (omega arith))

get_numbered : {X : Type 0} (n : ℕ) (rows : List X) (i : ℕ) (x : X) → slice_get rows i ≡ Some x → slice_get (enumerate_from n rows) i ≡ Some (n + i, x)
get_numbered n [] i x e = cc
get_numbered n (y ∷ ys) zero x e = let k : n ≡ n + 0 = omega arith in let same : y ≡ x = cc in rw same (ap (λ m. Some (m, x)) k)
get_numbered n (y ∷ ys) (suc i) x e = let k : n + 1 + i ≡ n + suc i = omega arith in get_numbered (n + 1) ys i x e ∙ ap (λ m. Some (m, x)) k

-- the first row of a run, and the rest
pub run_step : {X : Type 0} (rows : List X) (row end : ℕ) (x : X) → row_at rows row ≡ Some x → row < end
    → slice_range (numbered rows) (row - 1) (end - 1) ≡ (row, x) ∷ slice_range (numbered rows) (row + 1 - 1) (end - 1)
run_step rows zero end x e h = cc
run_step rows (suc i) end x e h =
    let d : suc i - 1 ≡ i = omega arith in
    let f : suc i + 1 - 1 ≡ i + 1 = omega arith in
    let k : 1 + i ≡ suc i = omega arith in
    rw (d, f, ← k) (range_step (numbered rows) i (end - 1) (1 + i, x) (get_numbered 1 rows i x e) (omega arith))

pub view_held : (raw : RawTables) (x row end : ℕ) (scope : ScopeRow) → row_at raw.scopes row ≡ Some scope → row < end → holds (range_of scope) x ≡ true
    → views_between raw x row end ≡ scope_view raw (row, scope) ∷ views_between raw x (row + 1) end
view_held raw x row end scope e h held = rw (run_step raw.scopes row end scope e h, held) refl

pub view_passed : (raw : RawTables) (x row end : ℕ) (scope : ScopeRow) → row_at raw.scopes row ≡ Some scope → row < end → holds (range_of scope) x ≡ false
    → views_between raw x row end ≡ views_between raw x (row + 1) end
view_passed raw x row end scope e h held = rw (run_step raw.scopes row end scope e h, held) refl

filter_both : {Y : Type 0} (p q : Y → Bool) (ys : List Y) → filter q (filter p ys) ≡ filter (λ y. p y && q y) ys
filter_both p q [] = refl
filter_both p q (y ∷ ys) =
    elim (p y) as (λ b. filter q (cond b (y ∷ filter p ys) (filter p ys)) ≡ cond (b && q y) (y ∷ filter (λ y. p y && q y) ys) (filter (λ y. p y && q y) ys)) [
      | true ↦ ap (λ rest. cond (q y) (y ∷ rest) rest) (filter_both p q ys)
      | false ↦ filter_both p q ys
    ]

-- the scopes of the method's run that hold the offset are those of the table
pub all_views : (raw : RawTables) (m x : ℕ) (run : Run) → IsRunOf (λ scope. scope.method) m raw.scopes run
    → views_between raw x run.first run.end ≡ scopes_at raw m x
all_views raw m x run is =
    ap (λ (rows : List (ℕ × ScopeRow)). map (scope_view raw) (filter (λ scope. holds (range_of scope.1) x) rows)) is.all
    ∙ ap (map (scope_view raw)) (filter_both (λ scope. scope.1.method == m) (λ scope. holds (range_of scope.1) x) (numbered raw.scopes))

-- how many rows a run has
pub rows_many : {X : Type 0} (key : X → ℕ) (wanted : ℕ) (rows : List X) (run : Run) → IsRunOf key wanted rows run
    → run.end - run.first ≡ length (rows_in run rows)
rows_many key wanted rows run is =
    let from = is.first.from in
    let to = is.end.to in
    let begun = is.end.from in
    let order = forward (map key rows) wanted run.first run.end is.first is.end in
    let len = length-map rows key in
    let many = length-enumerate_from 1 rows in
    let taken : length (rows_in run rows) ≡ run.end - run.first = simp (length-take, length-drop) (omega (arith, from, to, begun, order, len, many)) in
    sym taken

-- the rows of the method's run are as many as its scopes
pub all_rows : (raw : RawTables) (m : ℕ) (run : Run) → IsRunOf (λ scope. scope.method) m raw.scopes run → run.end - run.first ≡ scope_count raw m
all_rows raw m run is = rows_many (λ scope. scope.method) m raw.scopes run is ∙ ap length is.all
