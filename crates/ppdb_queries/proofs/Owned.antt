-- The rows of a scope's variables and constants, and those that it has in the value of the file.
use Rattle.std.proofs.Common.{◌≡◌, ℕ, zero, suc, ◌+◌, ◌-◌, ◌≤◌, List, [], ◌∷◌, ◌++◌, length, map, take, drop, refl, sym, ap, subst, ◌∙◌, arith, slice_range}
use Rattle.std.specs.{Prelude.{Option, Some, None, All, slice_get, unwrap_or, ◌==◌, ◌&&◌}, List.{enumerate_from, filter, sum_by}, Option.{option_map}}
use Rattle.std.proofs.lemmas.{List.{length-map, length-take, length-drop}, List.FromFn.{length-enumerate_from}, List.Sums.{sum_by-append}, List.Elements.{All-nil}}
use Rattle.std.proofs.lemmas.List.Elements.{All-cons, All-map, All-filter}
use Rattle.ppdb_tables.{specs.declared.rows.ScopeRow.{ScopeRow}, proofs.NumberedRows.{row_within}, specs.RawTables.{RawTables, numbered, row_at}}
use Rattle.ppdb_values.specs.{declared.scope.ScopeValue.{ScopeValue}, Constants.{constant_of}, Owners.{list_end, list_of}, Parts.{first_item, holds}}
use Rattle.ppdb_values.specs.{RawFile.{RawFile}, Rules.{KeepsLists, KeepsRules}, Value.{value_of, scope_of, variable_of, owned_by, range_of}}
use Rattle.ppdb_values.proofs.Lists.{owned_is_list, rises}
use Rattle.ppdb_queries.specs.{Laws.{ListsAreValues, ViewIsThere}, Scopes.{scope_view, scopes_at}}

-- ---- lists in order

-- a list begins at an item, or right after the last
begins : (list : ScopeRow → ℕ) (scopes : List ScopeRow) (items n : ℕ) (scope : ScopeRow) → KeepsLists list scopes items → row_at scopes n ≡ Some scope
    → (1 ≤ list scope) × (list scope ≤ items + 1)
begins list scopes items n scope keeps there =
    let within = row_within scopes n scope there in
    let one = first_of scopes (omega (arith, within)) in
    let first : list one.0 ≡ 1 = keeps.first one.0 one.1 in
    let up = rises list scopes items 1 n one.0 scope keeps one.1 there within.0 in
    (omega (arith, first, up), keeps.within n scope there)
  where
    first_of : (rows : List ScopeRow) → 1 ≤ length rows → (x : ScopeRow) × (row_at rows 1 ≡ Some x)
    first_of [] h = absurd (omega arith)
    first_of (x ∷ xs) h = (x, refl)

end_by : (list : ScopeRow → ℕ) (scopes : List ScopeRow) (items n : ℕ) (scope : ScopeRow) (next : Option ScopeRow) → KeepsLists list scopes items
    → row_at scopes n ≡ Some scope → row_at scopes (suc n) ≡ next
    → (list scope ≤ unwrap_or (option_map list next) (items + 1)) × (unwrap_or (option_map list next) (items + 1) ≤ items + 1)
end_by list scopes items n scope (Some later) keeps there e =
    (rises list scopes items n (suc n) scope later keeps there e (omega arith), keeps.within (suc n) later e)
end_by list scopes items n scope None keeps there e = let b = begins list scopes items n scope keeps there in (b.1, omega arith)

-- ---- how many items a scope has

count_range : {Y : Type 0} (ys : List Y) (a b : ℕ) → a ≤ b → b ≤ length ys → length (slice_range ys a b) ≡ b - a
count_range ys a b ab within = simp (length-take, length-drop) (omega arith)

-- with those of the scopes before it, they reach to the end of its list
owned_many : {X : Type 0} (list : ScopeRow → ℕ) (scopes : List ScopeRow) (items : List X) (n : ℕ) (scope : ScopeRow) → KeepsLists list scopes (length items)
    → row_at scopes n ≡ Some scope
    → length (owned_by list scopes n items) + list scope ≡ list_end list scopes n (length items)
owned_many list scopes items n scope keeps there =
    let from = begins list scopes (length items) n scope keeps there in
    let to = end_by list scopes (length items) n scope (row_at scopes (suc n)) keeps there refl in
    let all = length-enumerate_from 1 items in
    let owned = ap length (owned_is_list list scopes n scope items keeps there) in
    let count = count_range (numbered items) (list scope - 1) (list_end list scopes n (length items) - 1) (omega (arith, from, to)) (omega (arith, to, all)) in
    omega (arith, from, to, owned, count)

-- ---- their numbers

take_next : {X : Type 0} (xs : List X) (k : ℕ) (x : X) → slice_get xs k ≡ Some x → take (suc k) xs ≡ take k xs ++ x ∷ []
take_next [] k x e = cc
take_next (y ∷ ys) zero x e = let same : y ≡ x = cc in ap (λ z. z ∷ []) same
take_next (y ∷ ys) (suc k) x e = ap (λ rest. y ∷ rest) (take_next ys k x e)

get_made : {X Y : Type 0} (f : ℕ × X → Y) (n : ℕ) (rows : List X) (i : ℕ) (x : X) → slice_get rows i ≡ Some x
    → slice_get (map f (enumerate_from n rows)) i ≡ Some (f (n + i, x))
get_made f n [] i x e = cc
get_made f n (y ∷ ys) zero x e = let k : n ≡ n + 0 = omega arith in let same : y ≡ x = cc in rw same (ap (λ m. Some (f (m, x))) k)
get_made f n (y ∷ ys) (suc i) x e = let k : n + 1 + i ≡ n + suc i = omega arith in get_made f (n + 1) ys i x e ∙ ap (λ m. Some (f (m, x))) k

before : {X : Type 0} (rows : List X) (i : ℕ) (x : X) → slice_get rows (suc i) ≡ Some x → (y : X) × (slice_get rows i ≡ Some y)
before [] i x e = cc
before (y ∷ ys) zero x e = (y, refl)
before (y ∷ ys) (suc i) x e = before ys i x e

-- The items of the scopes before one are as many as come before its list.
counted : (raw : RawTables) (count : ScopeValue → ℕ) (list : ScopeRow → ℕ) (items : ℕ) → KeepsLists list raw.scopes items
    → ((n : ℕ) (scope : ScopeRow) → row_at raw.scopes n ≡ Some scope → count (scope_of raw (n, scope)) + list scope ≡ list_end list raw.scopes n items)
    → (k : ℕ) (scope : ScopeRow) → row_at raw.scopes (suc k) ≡ Some scope → suc (sum_by count (take k (map (scope_of raw) (numbered raw.scopes)))) ≡ list scope
counted raw count list items keeps many zero scope there = sym (keeps.first scope there)
counted raw count list items keeps many (suc k) scope there =
    let last = before raw.scopes k scope there in
    let so_far = counted raw count list items keeps many k last.0 last.1 in
    let one = many (suc k) last.0 last.1 in
    let end : list_end list raw.scopes (suc k) items ≡ list scope = ap (λ (next : Option ScopeRow). unwrap_or (option_map list next) (items + 1)) there in
    let made : slice_get (map (scope_of raw) (numbered raw.scopes)) k ≡ Some (scope_of raw (suc k, last.0)) =
    get_made (scope_of raw) 1 raw.scopes k last.0 last.1 ∙ ap (λ (n : ℕ). Some (scope_of raw (n, last.0))) (let e : 1 + k ≡ suc k = omega arith in e) in
    let taken = ap (sum_by count) (take_next (map (scope_of raw) (numbered raw.scopes)) k (scope_of raw (suc k, last.0)) made) in
    let added = sum_by-append count (take k (map (scope_of raw) (numbered raw.scopes))) (scope_of raw (suc k, last.0) ∷ []) in
    omega (arith, so_far, one, end, taken, added)

first_is : (raw : RawFile) (count : ScopeValue → ℕ) (list : ScopeRow → ℕ) (items : ℕ) → KeepsLists list raw.tables.scopes items
    → ((n : ℕ) (scope : ScopeRow) → row_at raw.tables.scopes n ≡ Some scope
    → count (scope_of raw.tables (n, scope)) + list scope ≡ list_end list raw.tables.scopes n items)
    → (n : ℕ) (scope : ScopeRow) → row_at raw.tables.scopes n ≡ Some scope → first_item count (value_of raw) n ≡ list scope
first_is raw count list items keeps many zero scope there = cc
first_is raw count list items keeps many (suc k) scope there =
    ap (λ (m : ℕ). suc (sum_by count (take m (map (scope_of raw.tables) (numbered raw.tables.scopes))))) (let e : suc k - 1 ≡ k = omega arith in e)
    ∙ counted raw.tables count list items keeps many k scope there

-- rows that follow one another have numbers that do
numbers_on : {X Y : Type 0} (f : X → Y) (n a k : ℕ) (items : List X)
    → map (λ item. (item.0, f item.1)) (take k (drop a (enumerate_from n items))) ≡ enumerate_from (n + a)
    (map (λ item. f item.1) (take k (drop a (enumerate_from n items))))
numbers_on f n zero zero items = refl
numbers_on f n zero (suc k) [] = refl
numbers_on f n zero (suc k) (x ∷ xs) =
    let here : n + 0 ≡ n = omega arith in
    let next : n + 1 + 0 ≡ n + 1 = omega arith in
    rw here (ap (λ rest. (n, f x) ∷ rest) (rw next at (numbers_on f (n + 1) zero k xs)))
numbers_on f n (suc a) zero [] = refl
numbers_on f n (suc a) (suc k) [] = refl
numbers_on f n (suc a) k (x ∷ xs) = let e : n + 1 + a ≡ n + suc a = omega arith in rw e at (numbers_on f (n + 1) a k xs)

list_numbers : {X Y : Type 0} (f : X → Y) (list : ScopeRow → ℕ) (scopes : List ScopeRow) (items : List X) (n first : ℕ) (scope : ScopeRow)
    → KeepsLists list scopes (length items) → row_at scopes n ≡ Some scope
    → first ≡ list scope
    → map (λ item. (item.0, f item.1)) (list_of list scopes n scope items) ≡ enumerate_from first (map (λ item. f item.1) (owned_by list scopes n items))
list_numbers {X} f list scopes items n first scope keeps there is =
    let from = begins list scopes (length items) n scope keeps there in
    let e : 1 + (list scope - 1) ≡ first = omega (arith, from, is) in
    numbers_on f 1 (list scope - 1) (list_end list scopes n (length items) - 1 - (list scope - 1)) items
    ∙ ap (λ (m : ℕ). enumerate_from m (map (λ item. f item.1) (list_of list scopes n scope items))) e
    ∙ ap (λ (owned : List (ℕ × X)). enumerate_from first (map (λ item. f item.1) owned)) (sym (owned_is_list list scopes n scope items keeps there))

pub lists_are : (raw : RawFile) → KeepsRules raw → ListsAreValues raw
lists_are raw keeps = record {
  variables = λ n scope there.
      let lists = keeps.variables.lists in
      list_numbers (variable_of raw.tables) (λ s. s.variables) raw.tables.scopes raw.tables.variables n _ scope lists there
      (first_is raw (λ s. length s.variables) (λ s. s.variables) (length raw.tables.variables) lists
      (λ m other here. ap (λ (k : ℕ). k + other.variables) (length-map (owned_by (λ s. s.variables) raw.tables.scopes m raw.tables.variables)
      (λ item. variable_of raw.tables item.1))
      ∙ owned_many (λ s. s.variables) raw.tables.scopes raw.tables.variables m other lists here)
      n scope there);
  constants = λ n scope there.
      let lists = keeps.constants.lists in
      list_numbers (constant_of raw.tables) (λ s. s.constants) raw.tables.scopes raw.tables.constants n _ scope lists there
      (first_is raw (λ s. length s.constants) (λ s. s.constants) (length raw.tables.constants) lists
      (λ m other here. ap (λ (k : ℕ). k + other.constants) (length-map (owned_by (λ s. s.constants) raw.tables.scopes m raw.tables.constants)
      (λ item. constant_of raw.tables item.1))
      ∙ owned_many (λ s. s.constants) raw.tables.scopes raw.tables.constants m other lists here)
      n scope there);
}

-- ---- rows that are there

view_there : (raw : RawFile) → KeepsRules raw → (n : ℕ) (scope : ScopeRow) → row_at raw.tables.scopes n ≡ Some scope
    → ViewIsThere raw.tables (scope_view raw.tables (n, scope))
view_there raw keeps n scope there =
    let within = row_within raw.tables.scopes n scope there in
    let scopes = keeps.shape.scopes in
    let variables = keeps.shape.variables in
    let constants = keeps.shape.constants in
    let v = begins (λ s. s.variables) raw.tables.scopes (length raw.tables.variables) n scope keeps.variables.lists there in
    let w =
    end_by (λ s. s.variables) raw.tables.scopes (length raw.tables.variables) n scope (row_at raw.tables.scopes (suc n)) keeps.variables.lists there refl in
    let c = begins (λ s. s.constants) raw.tables.scopes (length raw.tables.constants) n scope keeps.constants.lists there in
    let d =
    end_by (λ s. s.constants) raw.tables.scopes (length raw.tables.constants) n scope (row_at raw.tables.scopes (suc n)) keeps.constants.lists there refl in
    record {
      row = (within.0, omega (arith, within, scopes));
      import = (keeps.scopes.each n scope there).import;
      variables = (v.0, w.0, omega (arith, w, variables));
      constants = (c.0, d.0, omega (arith, d, constants));
    }

all_numbered : {X : Type 0} (P : ℕ × X → Type 0) (n : ℕ) (rows : List X) → ((i : ℕ) (x : X) → slice_get rows i ≡ Some x → P (n + i, x))
    → All P (enumerate_from n rows)
all_numbered P n [] each = All-nil P
all_numbered {X} P n (x ∷ xs) each =
    All-cons P (n, x) (enumerate_from (n + 1) xs)
    (let e : n + 0 ≡ n = omega arith in subst (λ (m : ℕ). P (m, x)) e (each 0 x refl))
    (all_numbered P (n + 1) xs (λ i y there. let e : n + suc i ≡ n + 1 + i = omega arith in subst (λ (m : ℕ). P (m, y)) e (each (suc i) y there)))

pub views_there : (raw : RawFile) (m x : ℕ) → KeepsRules raw → All (ViewIsThere raw.tables) (scopes_at raw.tables m x)
views_there raw m x keeps =
    let P : ℕ × ScopeRow → Type 0 = λ scope. ViewIsThere raw.tables (scope_view raw.tables scope) in
    All-map (ViewIsThere raw.tables) (scope_view raw.tables) (filter (λ scope. (scope.1.method == m) && holds (range_of scope.1) x)
    (numbered raw.tables.scopes))
    (All-filter (λ scope. (scope.1.method == m) && holds (range_of scope.1) x) P (numbered raw.tables.scopes)
    (all_numbered P 1 raw.tables.scopes (λ i scope there. view_there raw keeps (1 + i) scope (let e : suc i ≡ 1 + i = omega arith in
    subst (λ (n : ℕ). row_at raw.tables.scopes n ≡ Some scope) e there))))
