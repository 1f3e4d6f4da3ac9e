-- Where no list of the scopes begins after the last of the items, the last scope owns some.
use Rattle.std.{proofs.Common.{◌≡◌, ℕ, suc, ◌+◌, ◌-◌, ◌≤◌, List, [], ◌∷◌, length, map, drop, refl, ap, arith, slice_get}, specs.Prelude.{Some, unwrap_or}}
use Rattle.std.{specs.List.{enumerate_from}, specs.Option.{option_map}, proofs.lemmas.List.{length-take, length-drop}}
use Rattle.std.proofs.lemmas.{List.FromFn.{length-enumerate_from}, Option.{slice_get_past}}
use Rattle.sequence_points.specs.Written.{last_of}
use Rattle.ppdb_tables.specs.{declared.rows.ScopeRow.{ScopeRow}, RawTables.{RawTables, numbered}}
use Rattle.ppdb_values.specs.{declared.scope.ScopeValue.{ScopeValue}, Ordered.{EachRow}, Owners.{list_end}, Rules.{KeepsLists}, Value.{owned_by, scope_of}}
use Rattle.ppdb_values.proofs.Lists.{owned_is_list}

-- the last of the values that numbered rows make, and its row
record IsLast {X Y : Type 0} (f : ℕ × X → Y) (n : ℕ) (rows : List X) (last : Y) : Type 0 where
  index : ℕ
  row : X
  there : slice_get rows index ≡ Some row
  all : length rows ≡ suc index
  makes : f (n + index, row) ≡ last

last_row : {X Y : Type 0} (f : ℕ × X → Y) (n : ℕ) (rows : List X) (last : Y) → last_of (map f (enumerate_from n rows)) ≡ Some last → IsLast f n rows last
last_row f n [] last is = cc
last_row f n (x ∷ []) last is = let e : n + 0 ≡ n = omega arith in record { index = 0; row = x; there = refl; all = refl; makes = rw e (cc) }
last_row f n (x ∷ y ∷ rows) last is =
    let later = last_row f (n + 1) (y ∷ rows) last is in
    let e : n + suc later.index ≡ n + 1 + later.index = omega arith in
    record { index = suc later.index; row = later.row; there = later.there; all = ap suc later.all; makes = rw e later.makes }

module _ {X : Type 0} (raw : RawTables) (list : ScopeRow → ℕ) (items : List X) (keeps : KeepsLists list raw.scopes (length items))
    (begun : EachRow (λ scope. list scope ≤ length items) raw.scopes) (some : 1 ≤ length items) where
  -- the last row owns the items from its list to the end
  last_owns : (index : ℕ) (row : ScopeRow) → slice_get raw.scopes index ≡ Some row → length raw.scopes ≡ suc index
      → 1 ≤ length (owned_by list raw.scopes (suc index) items)
  last_owns index row there all =
      let from : ℕ = list row - 1 in
      let end : ℕ = list_end list raw.scopes (suc index) (length items) in
      let none = slice_get_past raw.scopes (suc index) (omega (arith, all)) in
      let ends : end ≡ length items + 1 = ap (λ o. unwrap_or (option_map list o) (length items + 1)) none in
      let count = ap length (owned_is_list list raw.scopes (suc index) row items keeps there) in
      let low = begun (suc index) row there in
      omega (
        arith,
        count,
        ends,
        low,
        some,
        length-take ((end - 1) - from) (drop from (numbered items)),
        length-drop from (numbered items),
        length-enumerate_from 1 items,
      )

  pub last_has : (own : ScopeValue → ℕ) → ((row : ℕ × ScopeRow) → own (scope_of raw row) ≡ length (owned_by list raw.scopes row.0 items)) → (last : ScopeValue)
      → last_of (map (scope_of raw) (numbered raw.scopes)) ≡ Some last → 1 ≤ own last
  last_has own owned last is =
      let l = last_row (scope_of raw) 1 raw.scopes last is in
      let e : 1 + l.index ≡ suc l.index = omega arith in
      let owns = last_owns l.index l.row l.there l.all in
      let many = owned (1 + l.index, l.row) in
      let same = ap own l.makes in
      let number = ap (λ n. length (owned_by list raw.scopes n items)) e in
      omega (arith, owns, many, same, number)
