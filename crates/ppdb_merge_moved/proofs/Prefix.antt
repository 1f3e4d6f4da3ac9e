-- Points that stay move to the start of their list.
use Rattle.std.proofs.Common.{◌≡◌, ℕ, ◌+◌, ◌<◌, ◌≤◌, ◌++◌, Bool, true, false, List, [], ◌∷◌, length, take, drop, set, get_or, sym, ap, ◌∙◌, arith, append_assoc}
use Rattle.std.{specs.Prelude.{cond, IsTrue, ◌↔◌}, proofs.lemmas.List.{take_more_set, drop_more, drop-drop, drop-set-lt}}
use Rattle.ppdb_base.{specs.Offsets.{Offsets, Rise, moved, old_size, is_kept_between, KeepsBetween}, proofs.Moved.{kept_test}}
use Rattle.sequence_points.specs.{declared.point.Point.{Point}, MovedPoints.{first_offset, moved_points}}
use Rattle.sequence_points_moved.proofs.Kept.{to_the_next}

abbrev at_image : Offsets → Point → Point
at_image o p = record p { offset = moved o p.offset }

-- the answer of the test is whether the point stays
test_is : (o : Offsets) → Rise o → old_size o ≤ 4294967295 → (p : Point) (ps : List Point) (end : ℕ) (r : Bool)
    → end ≡ first_offset 4294967295 ps → (IsTrue r ↔ KeepsBetween o p.offset end) → is_kept_between o p.offset (first_offset (old_size o) ps) ≡ r
test_is o rise le p ps end r ends says =
    sym (to_the_next o p.offset ps rise le) ∙ sym (ap (is_kept_between o p.offset) ends) ∙ kept_test o rise p.offset end r says

-- the points from the next one on
rest_same : (all points : List Point) (place : ℕ) → drop place points ≡ drop place all → drop (place + 1) points ≡ drop (place + 1) all
rest_same all points place left = sym (drop-drop 1 place points) ∙ ap (drop 1) left ∙ drop-drop 1 place all

-- the points from one on, by whether it stays
by_test : (o : Offsets) → Rise o → old_size o ≤ 4294967295 → (all points : List Point) (place : ℕ) (d : Point) (end : ℕ) (r : Bool) → place < length points
    → drop place points ≡ drop place all
    → end ≡ first_offset 4294967295 (drop (place + 1) points) → (IsTrue r ↔ KeepsBetween o (get_or points place d).offset end)
    → moved_points o (drop place all)
    ≡ cond r (at_image o (get_or points place d) ∷ moved_points o (drop (place + 1) all)) (moved_points o (drop (place + 1) all))
by_test o rise le all points place d end r less left ends says =
    let p = get_or points place d in
    let rest = drop (place + 1) all in
    let same : drop (place + 1) points ≡ rest = rest_same all points place left in
    ap (moved_points o) (sym left ∙ drop_more points place d less ∙ ap (λ ps. p ∷ ps) same)
    ∙ ap (λ b. cond b (at_image o p ∷ moved_points o rest) (moved_points o rest))
    (test_is o rise le p rest end r (ends ∙ ap (first_offset 4294967295) same) says)

pub prefix_stays : (o : Offsets) → Rise o → old_size o ≤ 4294967295 → (all points : List Point) (stay place : ℕ) (d : Point) (end : ℕ) (r : Bool) (q : Point)
    → place < length points → stay ≤ place
    → drop place points ≡ drop place all → moved_points o all ≡ take stay points ++ moved_points o (drop place all)
    → end ≡ first_offset 4294967295 (drop (place + 1) points) → (IsTrue r ↔ KeepsBetween o (get_or points place d).offset end) → r ≡ true
    → q ≡ at_image o (get_or points place d)
    → moved_points o all ≡ take (stay + 1) (set points stay q) ++ moved_points o (drop (place + 1) all)
prefix_stays o rise le all points stay place d end r q less within left done ends says kept is =
    let rest = moved_points o (drop (place + 1) all) in
    done
    ∙ ap (λ ps. take stay points ++ ps)
    (by_test o rise le all points place d end r less left ends says ∙ ap (λ b. cond b (at_image o (get_or points place d) ∷ rest) rest) kept
    ∙ ap (λ x. x ∷ rest) (sym is))
    ∙ sym (append_assoc (take stay points) (q ∷ []) rest) ∙ ap (λ ps. ps ++ rest) (sym (take_more_set points stay q (omega arith)))

pub prefix_goes : (o : Offsets) → Rise o → old_size o ≤ 4294967295 → (all points : List Point) (stay place : ℕ) (d : Point) (end : ℕ) (r : Bool)
    → place < length points
    → drop place points ≡ drop place all → moved_points o all ≡ take stay points ++ moved_points o (drop place all)
    → end ≡ first_offset 4294967295 (drop (place + 1) points) → (IsTrue r ↔ KeepsBetween o (get_or points place d).offset end) → r ≡ false
    → moved_points o all ≡ take stay points ++ moved_points o (drop (place + 1) all)
prefix_goes o rise le all points stay place d end r less left done ends says out =
    let rest = moved_points o (drop (place + 1) all) in
    done ∙ ap (λ ps. take stay points ++ ps)
    (by_test o rise le all points place d end r less left ends says ∙ ap (λ b. cond b (at_image o (get_or points place d) ∷ rest) rest) out)

pub left_after_set : (all points : List Point) (stay place : ℕ) (q : Point) → stay ≤ place → drop place points ≡ drop place all
    → drop (place + 1) (set points stay q) ≡ drop (place + 1) all
left_after_set all points stay place q within left = drop-set-lt (place + 1) points stay q (omega arith) ∙ rest_same all points place left

pub left_next : (all points : List Point) (place : ℕ) → drop place points ≡ drop place all → drop (place + 1) points ≡ drop (place + 1) all
left_next all points place left = rest_same all points place left
