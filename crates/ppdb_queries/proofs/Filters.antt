-- Rows with a key among rows that are sorted by it.
use Rattle.std.proofs.Common.{◌≡◌, ℕ, zero, suc, ◌+◌, ◌-◌, ◌<◌, ◌≤◌, ◌≢◌, List, [], ◌∷◌, length, map, take, drop, refl, arith, sym, ap, ◌∙◌, slice_index, false, inl}
use Rattle.std.{proofs.Common.{inr, ◌⊎◌}, proofs.lemmas.List.{length-map}, specs.Prelude.{Option, Some, None, slice_get, ◌==◌}, specs.List.{filter, find}}
use Rattle.std.{specs.List.{enumerate_from}, proofs.lemmas.Bool.{eq-eqb}, proofs.lemmas.Bool.Decides.{nat_tests}, specs.Option.{option_map}}
use Rattle.ppdb_tables.specs.{RawTables.{row_at}, declared.rows.MachineRow.{MachineRow}}
use Rattle.ppdb_values.specs.{Ordered.{IsSorted, Rises}, Links.{move_next_of}}
use Rattle.ppdb_queries.{proofs.Keys.{key_at}, specs.Runs.{IsRunOf, IsFirstNotBelow}}

pub le_or_lt : (a b : ℕ) → (a ≤ b) ⊎ (b < a)
le_or_lt a b = grind arith

differs : (a b : ℕ) → a ≢ b → (a == b) ≡ false
differs a b h = grind (arith, nat_tests)

-- the rows from one place to another are those with the key
filter_from : {X : Type 0} (key : X → ℕ) (wanted n : ℕ) (rows : List X) (a b : ℕ)
    → ((i : ℕ) → i < a → slice_index (map key rows) i < wanted)
    → ((i : ℕ) → a ≤ i → i < b → slice_index (map key rows) i ≡ wanted)
    → ((i : ℕ) → b ≤ i → i < length rows → wanted < slice_index (map key rows) i)
    → a ≤ b → b ≤ length rows
    → take (b - a) (drop a (enumerate_from n rows)) ≡ filter (λ row. key row.1 == wanted) (enumerate_from n rows)
filter_from key wanted n [] zero zero below mid above ab bn = refl
filter_from key wanted n [] zero (suc b) below mid above ab bn = absurd (omega arith)
filter_from key wanted n [] (suc a) b below mid above ab bn = absurd (omega arith)
filter_from key wanted n (x ∷ xs) zero zero below mid above ab bn =
    let h : wanted < key x = above 0 (omega arith) (omega arith) in
    rw (differs (key x) wanted (λ e. omega (arith, e, h)))
    (filter_from key wanted (n + 1) xs zero zero (λ i here. absurd (omega arith)) (λ i from to. absurd (omega arith))
    (λ i from to. above (suc i) (omega arith) (omega arith)) (omega arith) (omega arith))
filter_from key wanted n (x ∷ xs) zero (suc b) below mid above ab bn =
    let h : key x ≡ wanted = mid 0 (omega arith) (omega arith) in
    let more = filter_from key wanted (n + 1) xs zero b (λ i here. absurd (omega arith)) (λ i from to. mid (suc i) (omega arith) (omega arith))
    (λ i from to. above (suc i) (omega arith) (omega arith)) (omega arith) (omega arith) in
    let e : suc b - 0 ≡ suc b = omega arith in
    let d : b - 0 ≡ b = omega arith in
    rw (e, eq-eqb (key x) wanted h) (ap (λ rest. (n, x) ∷ rest) (rw d at more))
filter_from key wanted n (x ∷ xs) (suc a) zero below mid above ab bn = absurd (omega arith)
filter_from key wanted n (x ∷ xs) (suc a) (suc b) below mid above ab bn =
    let h : key x < wanted = below 0 (omega arith) in
    let e : suc b - suc a ≡ b - a = omega arith in
    let more = filter_from key wanted (n + 1) xs a b (λ i here. below (suc i) (omega arith)) (λ i from to. mid (suc i) (omega arith) (omega arith))
    (λ i from to. above (suc i) (omega arith) (omega arith)) (omega arith) (omega arith) in
    rw (e, differs (key x) wanted (λ e. omega (arith, e, h))) more

pub forward : (keys : List ℕ) (wanted first end : ℕ) → IsFirstNotBelow keys wanted first → IsFirstNotBelow keys (wanted + 1) end → first ≤ end
forward keys wanted first end f e = elim (le_or_lt first end) [
  | inl h ↦ h
  | inr h ↦
      let low : slice_index keys (end - 1) < wanted = f.below (end - 1) (let from = e.from in omega (arith, from)) in
      let high : wanted + 1 ≤ slice_index keys (end - 1) =
      e.above (end - 1) (let from = e.from in omega (arith, from)) (let from = e.from in let to = f.to in omega (arith, from, to)) in
      absurd (omega (arith, low, high))
]

-- the run that two searches find
pub run_of : {X : Type 0} (key : X → ℕ) (wanted : ℕ) (rows : List X) (first end : ℕ) → IsFirstNotBelow (map key rows) wanted first
    → IsFirstNotBelow (map key rows) (wanted + 1) end
    → IsRunOf key wanted rows (record { first = first; end = end })
run_of key wanted rows first end f e =
    let len = length-map rows key in
    let order = forward (map key rows) wanted first end f e in
    let from = f.from in
    let to = e.to in
    let begun = e.from in
    record {
      first = f;
      end = e;
      all = filter_from key wanted 1 rows (first - 1) (end - 1)
          (λ i here. f.below i (omega (arith, from)))
          (λ i low high. let a = f.above i (omega (arith, from)) (omega (arith, to, begun, len)) in let b = e.below i (omega (arith, begun)) in
          omega (arith, a, b))
          (λ i low inside. let a = e.above i (omega (arith, begun)) (omega (arith, len)) in omega (arith, a))
          (omega (arith, order, from))
          (omega (arith, to, begun, len));
    }

-- the first row with a key
pub find_key : {X : Type 0} (key : X → ℕ) (wanted : ℕ) (rows : List X) (i : ℕ) (x : X) → slice_get rows i ≡ Some x → key x ≡ wanted
    → ((j : ℕ) → j < i → slice_index (map key rows) j ≢ wanted) → find (λ row. key row == wanted) rows ≡ Some x
find_key key wanted [] i x there same apart = cc
find_key key wanted (y ∷ ys) zero x there same apart =
    let e : y ≡ x = cc in
    rw (eq-eqb (key y) wanted (ap key e ∙ same)) there
find_key key wanted (y ∷ ys) (suc i) x there same apart =
    rw (differs (key y) wanted (apart 0 (omega arith))) (find_key key wanted ys i x there same (λ j here. apart (suc j) (omega arith)))

-- no row has the key
pub find_none : {X : Type 0} (key : X → ℕ) (wanted : ℕ) (rows : List X) → ((j : ℕ) → j < length rows → slice_index (map key rows) j ≢ wanted)
    → find (λ row. key row == wanted) rows ≡ None
find_none key wanted [] apart = refl
find_none key wanted (y ∷ ys) apart = rw (differs (key y) wanted (apart 0 (omega arith))) (find_none key wanted ys (λ j here. apart (suc j) (omega arith)))

-- the row of a number is at the place before
place_of : {X : Type 0} (xs : List X) (row : ℕ) (x : X) → row_at xs row ≡ Some x → slice_get xs (row - 1) ≡ Some x
place_of xs zero x e = cc
place_of xs (suc i) x e = let k : suc i - 1 ≡ i = omega arith in rw k e

-- keys that rise are sorted
pub rising_sorted : (keys : List ℕ) → Rises keys → IsSorted keys
rising_sorted keys rise i j order inside = elim (le_or_lt j i) [
  | inl h ↦ let e : i ≡ j = omega arith in rw e (omega arith)
  | inr h ↦ let r = rise i j h inside in omega (arith, r)
]

-- neither equal nor less
pub above_both : {a b : ℕ} → a ≢ b → b ≤ a → b + 1 ≤ a
above_both apart h = grind (arith, apart)

-- the row with a key, among rows whose keys rise
pub rising_found : {X : Type 0} (key : X → ℕ) (rows : List X) (wanted row : ℕ) (x : X) → Rises (map key rows)
    → 1 ≤ row → row ≤ length rows → row_at rows row ≡ Some x → key x ≡ wanted → Some x ≡ find (λ y. key y == wanted) rows
rising_found key rows wanted row x rise from to there same =
    let at : slice_index (map key rows) (row - 1) ≡ key x = key_at key rows row x there in
    sym (find_key key wanted rows (row - 1) x (place_of rows row x there) same
    (λ j here e. let len = length-map rows key in let r = rise j (row - 1) here (omega (arith, len)) in omega (arith, r, at, same, e)))

-- no row has the key
pub rising_none : {X : Type 0} (key : X → ℕ) (rows : List X) (wanted first end : ℕ) → end ≤ first
    → ((i : ℕ) → i + 1 < first → slice_index (map key rows) i < wanted)
    → ((i : ℕ) → end ≤ i + 1 → i < length (map key rows) → wanted + 1 ≤ slice_index (map key rows) i)
    → None ≡ find (λ y. key y == wanted) rows
rising_none key rows wanted first end met below above =
    let len = length-map rows key in
    sym (find_none key wanted rows (λ j inside e. elim (le_or_lt end (j + 1)) [
      | inl h ↦ let a = above j h (omega (arith, len)) in omega (arith, a, e)
      | inr h ↦ let b = below j (omega arith) in omega (arith, b, e)
    ]))

-- the machine whose kickoff is the method, the first with it
pub move_next_found : (machines : List MachineRow) (method row : ℕ) (machine : MachineRow)
    → ((j : ℕ) → j + 1 < row → slice_index (map (λ machine. machine.kickoff) machines) j ≢ method)
    → 1 ≤ row → row_at machines row ≡ Some machine → machine.kickoff ≡ method → Some machine.move_next ≡ move_next_of machines method
move_next_found machines method row machine apart from there same =
    sym (ap (λ (found : Option MachineRow). option_map (λ m. m.move_next) found)
    (find_key (λ m. m.kickoff) method machines (row - 1) machine (place_of machines row machine there) same (λ j here. apart j (omega arith))))

-- no machine has the kickoff
pub move_next_none : (machines : List MachineRow) (method : ℕ)
    → ((j : ℕ) → j < length machines → slice_index (map (λ machine. machine.kickoff) machines) j ≢ method) → None ≡ move_next_of machines method
move_next_none machines method apart =
    sym (ap (λ (found : Option MachineRow). option_map (λ m. m.move_next) found) (find_none (λ m. m.kickoff) method machines apart))

-- one more row that has another key
pub apart_more : {X : Type 0} (key : X → ℕ) (wanted : ℕ) (rows : List X) (row : ℕ) (x : X)
    → ((j : ℕ) → j + 1 < row → slice_index (map key rows) j ≢ wanted) → 1 ≤ row → row_at rows row ≡ Some x → key x ≢ wanted
    → (j : ℕ) → j + 1 < row + 1 → slice_index (map key rows) j ≢ wanted
apart_more key wanted rows row x apart from there other j here = elim (le_or_lt row (j + 1)) [
  | inl h ↦ let e : j ≡ row - 1 = omega arith in λ same. other (sym (key_at key rows row x there) ∙ sym (ap (λ (i : ℕ). slice_index (map key rows) i) e) ∙ same)
  | inr h ↦ apart j h
]
