-- Lists that are joined from pieces, and where an item of a piece stands.
use Rattle.std.proofs.Common.{◌≡◌, ℕ, zero, suc, ◌+◌, ◌-◌, ◌≤◌, ◌<◌, List, [], ◌∷◌, ◌++◌, length, map, take, drop, flat_map, refl, sym, ap, ◌∙◌, arith, inl, inr}
use Rattle.std.{proofs.Common.{slice_get, length-append}, specs.Prelude.{Some}, specs.List.{enumerate_from, sum_by}, proofs.lemmas.Bool.{cases_lt}}
use Rattle.std.proofs.lemmas.{List.{take_at}, List.Concat.{length-flat_map}, List.Sums.{sum_by-cons, sum_by-take-le}}

-- ---- lists

-- an item past some that come before it
later_item : {X : Type 0} (xs ys : List X) (i : ℕ) → slice_get (xs ++ ys) (length xs + i) ≡ slice_get ys i
later_item [] ys i = let e : 0 + i ≡ i = omega arith in ap (slice_get ys) e
later_item (x ∷ xs) ys i = let e : suc (length xs) + i ≡ suc (length xs + i) = omega arith in ap (slice_get (x ∷ (xs ++ ys))) e ∙ later_item xs ys i

-- an item of the first of two lists
early_item : {X : Type 0} (xs ys : List X) (i : ℕ) → i < length xs → slice_get (xs ++ ys) i ≡ slice_get xs i
early_item [] ys i low = absurd (omega (arith, low))
early_item (x ∷ xs) ys zero low = refl
early_item (x ∷ xs) ys (suc i) low = early_item xs ys i (omega (arith, low))

-- rows without their numbers
pub unnumbered : {X Y : Type 0} (g : X → Y) (n : ℕ) (xs : List X) → map (λ item. g item.1) (enumerate_from n xs) ≡ map g xs
unnumbered g n [] = refl
unnumbered g n (x ∷ xs) = ap (λ rest. g x ∷ rest) (unnumbered g (n + 1) xs)

-- a list, each of whose items is made again
pub made_again : {X : Type 0} (f : X → X) (xs : List X) → ((i : ℕ) (x : X) → slice_get xs i ≡ Some x → f x ≡ x) → map f xs ≡ xs
made_again f [] same = refl
made_again f (x ∷ xs) same = ap (λ y. y ∷ map f xs) (same 0 x refl) ∙ ap (λ ys. x ∷ ys) (made_again f xs (λ i y here. same (suc i) y here))

-- ---- pieces

module _ {S X : Type 0} (part : S → List X) where
  -- how many items the pieces before the one at this index have
  abbrev pub before : List S → ℕ → ℕ
  before all k = sum_by (λ s. length (part s)) (take k all)

  pub before_all : (all : List S) (k : ℕ) → length all ≤ k → before all k ≡ length (flat_map part all)
  before_all [] zero past = refl
  before_all [] (suc k) past = refl
  before_all (s ∷ all) zero past = absurd (omega (arith, past))
  before_all (s ∷ all) (suc k) past =
      let more = before_all all k (omega (arith, past)) in
      omega (arith, more, sum_by-cons (λ s. length (part s)) s (take k all), length-append (part s) (flat_map part all))

  pub before_next : (all : List S) (k : ℕ) (s : S) → slice_get all k ≡ Some s → before all (suc k) ≡ before all k + length (part s)
  before_next [] k s here = cc
  before_next (t ∷ all) zero s here =
      let same : t ≡ s = cc in
      let one : before (t ∷ all) 1 ≡ length (part t) + 0 = sum_by-cons (λ s. length (part s)) t [] in
      one ∙ ap (λ (u : S). length (part u) + 0) same ∙ omega arith
  before_next (t ∷ all) (suc k) s here =
      let more = before_next all k s here in
      omega (arith, more, sum_by-cons (λ s. length (part s)) t (take k all), sum_by-cons (λ s. length (part s)) t (take (suc k) all))

  pub before_within : (all : List S) (k : ℕ) → before all k ≤ length (flat_map part all)
  before_within all k = let most = sum_by-take-le (λ s. length (part s)) all k in omega (arith, most, length-flat_map part all)

  pub before_rises : (all : List S) (i j : ℕ) → i ≤ j → before all i ≤ before all j
  before_rises [] zero j le = omega arith
  before_rises [] (suc i) zero le = absurd (omega (arith, le))
  before_rises [] (suc i) (suc j) le = omega arith
  before_rises (s ∷ all) zero j le = omega arith
  before_rises (s ∷ all) (suc i) zero le = absurd (omega (arith, le))
  before_rises (s ∷ all) (suc i) (suc j) le =
      let more = before_rises all i j (omega (arith, le)) in
      omega (arith, more, sum_by-cons (λ s. length (part s)) s (take i all), sum_by-cons (λ s. length (part s)) s (take j all))

  -- a piece stands after those before it
  pub piece_at : (all : List S) (k : ℕ) (s : S) → slice_get all k ≡ Some s → take (length (part s)) (drop (before all k) (flat_map part all)) ≡ part s
  piece_at [] k s here = cc
  piece_at (t ∷ all) zero s here =
      let same : s ≡ t = cc in
      ap (λ (u : S). take (length (part u)) (flat_map part (t ∷ all))) same
      ∙ take_at (part t) (flat_map part all) (length (part t)) refl
      ∙ ap part (sym same)
  piece_at (t ∷ all) (suc k) s here =
      let split : before (t ∷ all) (suc k) ≡ length (part t) + before all k = sum_by-cons (λ s. length (part s)) t (take k all) in
      ap (take (length (part s))) (ap (λ n. drop n (flat_map part (t ∷ all))) split ∙ past_first (part t) (flat_map part all) (before all k))
      ∙ piece_at all k s here
    where
      past_first : (xs ys : List X) (n : ℕ) → drop (length xs + n) (xs ++ ys) ≡ drop n ys
      past_first [] ys n = let e : 0 + n ≡ n = omega arith in ap (λ m. drop m ys) e
      past_first (x ∷ xs) ys n =
          let e : suc (length xs) + n ≡ suc (length xs + n) = omega arith in
          ap (λ m. drop m (x ∷ (xs ++ ys))) e ∙ past_first xs ys n

  -- An item of the joined list: the piece that has it, and its index there.
  pub record IsIn (all : List S) (n : ℕ) (x : X) : Type 0 where
    pub index : ℕ
    pub piece : S
    pub place : ℕ
    pub there : slice_get all index ≡ Some piece
    pub item : slice_get (part piece) place ≡ Some x
    pub stands : n ≡ before all index + place

  pub item_in : (all : List S) (n : ℕ) (x : X) → slice_get (flat_map part all) n ≡ Some x → IsIn all n x
  item_in [] n x here = cc
  item_in (t ∷ all) n x here = elim (cases_lt n (length (part t))) [
    | inl first ↦ record {
      index = 0;
      piece = t;
      place = n;
      there = refl;
      item = sym (early_item (part t) (flat_map part all) n first) ∙ here;
      stands = omega arith;
    }
    | inr later ↦
        let i = n - length (part t) in
        let e : length (part t) + i ≡ n = omega (arith, later) in
        let rest = item_in all i x (sym (later_item (part t) (flat_map part all) i) ∙ ap (slice_get (flat_map part (t ∷ all))) e ∙ here) in
        let place = rest.stands in
        let head = sum_by-cons (λ s. length (part s)) t (take rest.index all) in
        record {
          index = suc rest.index;
          piece = rest.piece;
          place = rest.place;
          there = rest.there;
          item = rest.item;
          stands = omega (arith, e, place, head);
        }
  ]
