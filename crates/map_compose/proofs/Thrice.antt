-- The rows of which a map's lines speak, of three forms, merged: what is left after the least of their first numbers.
use Rattle.std.proofs.Common.{ℕ, ◌≡◌, ◌+◌, ◌≤◌, ◌++◌, ◌&&◌, ◌||◌, Bool, true, false, cond, List, [], ◌∷◌, map, drop, min, refl, sym, ap, ◌∙◌, subst, arith, inl, inr}
use Rattle.std.{proofs.Common.{Option, Some, None}, specs.Prelude.{nat_eq, is_some}, specs.List.{AllByRecursion, slice_get}, specs.List.Sorted.{IsStrictlySortedBy}}
use Rattle.std.proofs.lemmas.Bool.{eq-eqb, ne_eqb, eqb-true, false≢true, cases_lt}
use Rattle.ppdb_maps.specs.{declared.entries.RowLine.{RowLine}, declared.entries.CrossLine.{CrossLine}, declared.entries.GoneLine.{GoneLine}, Map.{Map, rows_of}}
use Rattle.ppdb_maps.{specs.Map.{crossed_of, gone_of}, specs.Readable.{IsReadable, IsRowOf, IsCrossOf, IsGoneOf}, proofs.OneMap.{same_or_apart}}
use Rattle.ppdb_maps_text.{specs.Ascending.{ascending}, proofs.Found.{has, has_append}, proofs.Orders.{Up, Above, is_less, key_up}}
use Rattle.map_compose.{specs.Parts.{passed_on, least_of}, proofs.Bounds.{few}, proofs.Merging.{first_of, above_both, above_less, up_drop}, proofs.Putting.{drop_at}}
use Rattle.map_compose.proofs.{Putting.{drop_past, within}, Readable.{map_hold, filter_hold}}
use Rattle.ppdb_base.specs.declared.limits.TheConstants.{MAX_ROWS}

-- ---- the least

abbrev pub Low : ℕ → Option ℕ → Type 0
Low z None = Unit {0}
Low z (Some x) = z ≤ x

abbrev pub hit : Option ℕ → ℕ → Bool
hit None z = false
hit (Some x) z = nat_eq x z

or_left : (a b : Bool) → a ≡ true → (a || b) ≡ true
or_left a b is = ap (λ c. c || b) is

or_right : (a b : Bool) → b ≡ true → (a || b) ≡ true
or_right true b is = refl
or_right false b is = is

two : (a b : Option ℕ) (z : ℕ) → least_of a b ≡ Some z → Low z a × Low z b × ((hit a z || hit b z) ≡ true)
two None None z is = absurd (cc)
two None (Some y) z is = let e : y ≡ z = cc in (tt, omega (arith, e), eq-eqb y z e)
two (Some x) None z is = let e : x ≡ z = cc in (omega (arith, e), tt, or_left (nat_eq x z) false (eq-eqb x z e))
two (Some x) (Some y) z is =
    let e : min x y ≡ z = cc in
    elim (cases_lt x y) [
      | inl less ↦ (omega (arith, e, less), omega (arith, e, less), or_left (nat_eq x z) (nat_eq y z) (eq-eqb x z (omega (arith, e, less))))
      | inr le ↦ (omega (arith, e, le), omega (arith, e, le), or_right (nat_eq x z) (nat_eq y z) (eq-eqb y z (omega (arith, e, le))))
    ]

none_both : (a b : Option ℕ) → least_of a b ≡ None → (a ≡ None) × (b ≡ None)
none_both None b is = (refl, is)
none_both (Some x) None is = absurd (cc)
none_both (Some x) (Some y) is = absurd (cc)

lower : (z w : ℕ) (a : Option ℕ) → z ≤ w → Low w a → Low z a
lower z w None le low = tt
lower z w (Some x) le low = omega (arith, le, low)

pub record IsLeast (a b c : Option ℕ) (z : ℕ) : Type 0 where
  pub first : Low z a
  pub second : Low z b
  pub third : Low z c
  pub one : (hit a z || (hit b z || hit c z)) ≡ true

pub three : (a b c : Option ℕ) (z : ℕ) → least_of a (least_of b c) ≡ Some z → IsLeast a b c z
three a b c z is = of (least_of b c) refl (two a (least_of b c) z is)
  where
    of : (m : Option ℕ) → least_of b c ≡ m → Low z a × Low z m × ((hit a z || hit m z) ≡ true) → IsLeast a b c z
    of None at h =
        let none = none_both b c at in
        record {
          first = h.0;
          second = subst (Low z) (sym none.0) tt;
          third = subst (Low z) (sym none.1) tt;
          one = or_left (hit a z) (hit b z || hit c z) (alone (hit a z) h.2);
        }
      where
        alone : (b : Bool) → (b || false) ≡ true → b ≡ true
        alone true is = refl
        alone false is = is
    of (Some w) at h =
        let k = two b c w at in
        record {
          first = h.0;
          second = lower z w b h.1 k.0;
          third = lower z w c h.1 k.1;
          one = by (hit a z) (nat_eq w z) refl h.2 k.2;
        }
      where
        by : (x y : Bool) → nat_eq w z ≡ y → (x || y) ≡ true → (hit b w || hit c w) ≡ true → (x || (hit b z || hit c z)) ≡ true
        by true y same is hits = refl
        by false true same is hits = subst (λ n. (hit b n || hit c n) ≡ true) (eqb-true w z same) hits
        by false false same is hits = absurd (false≢true is)

pub none_three : (a b c : Option ℕ) → least_of a (least_of b c) ≡ None → (a ≡ None) × (b ≡ None) × (c ≡ None)
none_three a b c is = let first = none_both a (least_of b c) is in let rest = none_both b c first.1 in (first.0, rest.0, rest.1)

-- ---- a list, once the least was passed in it

record Rest (z : ℕ) (at : Option ℕ) (before after : List ℕ) : Type 0 where
  above : Above z after
  alike : (n : ℕ) → has n before ≡ ((hit at z && nat_eq n z) || has n after)

rest_of : (xs : List ℕ) → Up xs → (i z : ℕ) (at : Option ℕ) → slice_get xs i ≡ at → Low z at → Rest z at (drop i xs) (drop (passed_on i at z) xs)
unfolding IsStrictlySortedBy
rest_of xs up i z None is low = record {
  above = subst (Above z) (sym (drop_past xs i is)) tt;
  alike = λ n. refl;
}
rest_of xs up i z (Some x) is low =
    let cut = drop_at xs i x is in
    let rising : Up (x ∷ drop (i + 1) xs) = subst Up cut (up_drop xs i up) in
    elim (same_or_apart x z) [
      | inl same ↦
          let on : passed_on i (Some x) z ≡ i + 1 = ap (λ b. cond b (i + 1) i) (eq-eqb x z same) in
          record {
            above = subst (λ k. Above z (drop k xs)) (sym on) (subst (λ k. Above k (drop (i + 1) xs)) same rising.0);
            alike = λ n.
                ap (has n) cut ∙ ap (λ k. nat_eq n k || has n (drop (i + 1) xs)) same
                ∙ sym (ap (λ b. (b && nat_eq n z) || has n (drop (passed_on i (Some x) z) xs)) (eq-eqb x z same)
                ∙ ap (λ k. nat_eq n z || has n (drop k xs)) on);
          }
      | inr apart ↦
          let on : passed_on i (Some x) z ≡ i = ap (λ b. cond b (i + 1) i) (ne_eqb x z apart) in
          record {
            above = subst (λ k. Above z (drop k xs)) (sym on)
                (subst (Above z) (sym cut) (is_less z x (omega (arith, low, apart)), above_less z x (drop (i + 1) xs) (omega (arith, low, apart)) rising.0));
            alike = λ n.
                sym (ap (λ b. (b && nat_eq n z) || has n (drop (passed_on i (Some x) z) xs)) (ne_eqb x z apart) ∙ ap (λ k. has n (drop k xs)) on);
          }
    ]

-- ---- three lists

abbrev pub left_of : List ℕ → List ℕ → List ℕ → ℕ → ℕ → ℕ → List ℕ
left_of xs ys zs i j k = ascending (drop i xs ++ (drop j ys ++ drop k zs))

left_next : (xs ys zs : List ℕ) → Up xs → Up ys → Up zs → (i j k z : ℕ) (a b c : Option ℕ) → slice_get xs i ≡ a → slice_get ys j ≡ b
    → slice_get zs k ≡ c → least_of a (least_of b c) ≡ Some z
    → left_of xs ys zs i j k ≡ z ∷ left_of xs ys zs (passed_on i a z) (passed_on j b z) (passed_on k c z)
left_next xs ys zs up also third i j k z a b c at_a at_b at_c is =
    let least = three a b c z is in
    let x = rest_of xs up i z a at_a least.first in
    let y = rest_of ys also j z b at_b least.second in
    let w = rest_of zs third k z c at_c least.third in
    first_of z (drop i xs ++ (drop j ys ++ drop k zs))
    (drop (passed_on i a z) xs ++ (drop (passed_on j b z) ys ++ drop (passed_on k c z) zs))
    (above_both z (drop (passed_on i a z) xs) _ x.above (above_both z (drop (passed_on j b z) ys) (drop (passed_on k c z) zs) y.above w.above))
    (λ n.
    has_append n (drop i xs) (drop j ys ++ drop k zs) ∙ ap (λ t. has n (drop i xs) || t) (has_append n (drop j ys) (drop k zs))
    ∙ ap (λ t. t || (has n (drop j ys) || has n (drop k zs))) (x.alike n)
    ∙ ap (λ t. ((hit a z && nat_eq n z) || has n (drop (passed_on i a z) xs)) || (t || has n (drop k zs))) (y.alike n)
    ∙ ap (λ t. ((hit a z && nat_eq n z) || has n (drop (passed_on i a z) xs))
    || (((hit b z && nat_eq n z) || has n (drop (passed_on j b z) ys)) || t)) (w.alike n)
    ∙ sorted (hit a z) (hit b z) (hit c z) (nat_eq n z) (has n (drop (passed_on i a z) xs)) (has n (drop (passed_on j b z) ys))
    (has n (drop (passed_on k c z) zs)) least.one
    ∙ ap (λ t. nat_eq n z || t) (sym (has_append n (drop (passed_on i a z) xs) (drop (passed_on j b z) ys ++ drop (passed_on k c z) zs)
    ∙ ap (λ t. has n (drop (passed_on i a z) xs) || t) (has_append n (drop (passed_on j b z) ys) (drop (passed_on k c z) zs)))))
  where
    or_true : (a : Bool) → (a || true) ≡ true
    or_true true = refl
    or_true false = refl

    missed : (h u : Bool) → ((h && false) || u) ≡ u
    missed true u = refl
    missed false u = refl

    sorted : (h k l e u v w : Bool) → (h || (k || l)) ≡ true
        → (((h && e) || u) || (((k && e) || v) || ((l && e) || w))) ≡ (e || (u || (v || w)))
    sorted h k l false u v w is =
        ap (λ t. t || (((k && false) || v) || ((l && false) || w))) (missed h u) ∙ ap (λ t. u || (t || ((l && false) || w))) (missed k v)
        ∙ ap (λ t. u || (v || t)) (missed l w)
    sorted true k l true u v w is = refl
    sorted false true l true u v w is = or_true u
    sorted false false true true u v w is = ap (λ t. u || t) (or_true v) ∙ or_true u
    sorted false false false true u v w is = absurd (false≢true is)

-- as the lines are asked for
pub left_passed : (xs ys zs : List ℕ) → Up xs → Up ys → Up zs → (i j k z u v w : ℕ) (a b c inner : Option ℕ) → a ≡ slice_get xs i → b ≡ slice_get ys j
    → c ≡ slice_get zs k → inner ≡ least_of b c → Some z ≡ least_of a inner → u ≡ passed_on i a z → v ≡ passed_on j b z → w ≡ passed_on k c z
    → left_of xs ys zs i j k ≡ z ∷ left_of xs ys zs u v w
left_passed xs ys zs up also third i j k z u v w a b c inner at_a at_b at_c in_is is on_u on_v on_w =
    left_next xs ys zs up also third i j k z a b c (sym at_a) (sym at_b) (sym at_c) (sym (is ∙ ap (least_of a) in_is))
    ∙ ap (λ n. z ∷ left_of xs ys zs n (passed_on j b z) (passed_on k c z)) (sym on_u)
    ∙ ap (λ n. z ∷ left_of xs ys zs u n (passed_on k c z)) (sym on_v) ∙ ap (λ n. z ∷ left_of xs ys zs u v n) (sym on_w)

pub left_ended : (xs ys zs : List ℕ) (i j k : ℕ) (a b c inner : Option ℕ) → a ≡ slice_get xs i → b ≡ slice_get ys j
    → c ≡ slice_get zs k → inner ≡ least_of b c → None ≡ least_of a inner → left_of xs ys zs i j k ≡ []
left_ended xs ys zs i j k a b c inner at_a at_b at_c in_is is =
    let none = none_three a b c (sym (is ∙ ap (least_of a) in_is)) in
    ap (λ l. ascending (l ++ (drop j ys ++ drop k zs))) (drop_past xs i (sym at_a ∙ none.0))
    ∙ ap (λ l. ascending (l ++ drop k zs)) (drop_past ys j (sym at_b ∙ none.1)) ∙ ap ascending (drop_past zs k (sym at_c ∙ none.2))

-- ---- the lines of a table

module _ (m : Map) (readable : IsReadable m) (table : ℕ) where
  pub rows_rise : Up (map (λ (r : RowLine). r.old) (rows_of m table))
  rows_rise = key_up (λ (r : RowLine). r.table) (λ (r : RowLine). r.old) table m.rows readable.ascends.rows

  pub crossed_rise : Up (map (λ (r : CrossLine). r.old) (crossed_of m table))
  crossed_rise = key_up (λ (r : CrossLine). r.table) (λ (r : CrossLine). r.old) table m.crossed readable.ascends.crossed

  pub gone_rise : Up (map (λ (r : GoneLine). r.old) (gone_of m table))
  gone_rise = key_up (λ (r : GoneLine). r.table) (λ (r : GoneLine). r.old) table m.gone readable.ascends.gone

  index_few : (ns : List ℕ) → Up ns → AllByRecursion (λ k. k ≤ MAX_ROWS) ns → (i : ℕ) → is_some (slice_get ns i) ≡ true → i ≤ 16777216
  index_few ns up all i some = of (slice_get ns i) refl some
    where
      of : (o : Option ℕ) → slice_get ns i ≡ o → is_some o ≡ true → i ≤ 16777216
      of None at some = absurd (false≢true some)
      of (Some x) at some = let less = within ns i x at in let most = few MAX_ROWS ns up all in omega (arith, less, most)

  pub rows_few : (i : ℕ) → is_some (slice_get (map (λ (r : RowLine). r.old) (rows_of m table)) i) ≡ true → i ≤ 16777216
  rows_few i some = index_few (map (λ (r : RowLine). r.old) (rows_of m table)) rows_rise
      (map_hold (IsRowOf m) (λ k. k ≤ MAX_ROWS) (λ (r : RowLine). r.old) (λ r is. is.0.1) (rows_of m table)
      (filter_hold (IsRowOf m) (IsRowOf m) (λ r. nat_eq r.table table) (λ r is at. is) m.rows readable.rows)) i some

  pub crossed_few : (i : ℕ) → is_some (slice_get (map (λ (r : CrossLine). r.old) (crossed_of m table)) i) ≡ true → i ≤ 16777216
  crossed_few i some = index_few (map (λ (r : CrossLine). r.old) (crossed_of m table)) crossed_rise
      (map_hold (IsCrossOf m) (λ k. k ≤ MAX_ROWS) (λ (r : CrossLine). r.old) (λ r is. is.0.1) (crossed_of m table)
      (filter_hold (IsCrossOf m) (IsCrossOf m) (λ r. nat_eq r.table table) (λ r is at. is) m.crossed readable.crossed)) i some

  pub gone_few : (i : ℕ) → is_some (slice_get (map (λ (r : GoneLine). r.old) (gone_of m table)) i) ≡ true → i ≤ 16777216
  gone_few i some = index_few (map (λ (r : GoneLine). r.old) (gone_of m table)) gone_rise
      (map_hold (IsGoneOf m) (λ k. k ≤ MAX_ROWS) (λ (r : GoneLine). r.old) (λ r is. is.0.1) (gone_of m table)
      (filter_hold (IsGoneOf m) (IsGoneOf m) (λ r. nat_eq r.table table) (λ r is at. is) m.gone readable.gone)) i some
