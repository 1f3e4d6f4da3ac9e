-- Points that have moved rise.
use Rattle.std.{proofs.Common.{◌≡◌, ℕ, ◌<◌, ◌≤◌, ◌≢◌, Bool, true, false, List, [], ◌∷◌, refl, subst, sym, arith, inl, inr}, specs.Prelude.{cond, All}}
use Rattle.std.proofs.lemmas.{Bool.{cases_Bool}, List.Elements.{All-nil, All-cons, All-head, All-tail}, List.Kept.{AllPairs-cons}}
use Rattle.ppdb_base.{specs.Offsets.{Offsets, every, gone, lined, Rise, Kept, KeepsBetween, moved, is_kept_between, old_size}, proofs.Moved.{moved_kept}}
use Rattle.ppdb_base.proofs.Moved.{moved_never_falls, moved_passes, is_kept}
use Rattle.sequence_points.specs.{declared.point.Point.{Point}, MovedPoints.{first_offset, moved_points, PointsRise, MovedPointsRise, MovedPointsWorked}}
use Rattle.sequence_points.proofs.Follows.{pairs-head, pairs-tail}

abbrev Within : Offsets → List Point → Type 0
Within o points = All (λ p. p.offset < old_size o) points

abbrev moved_point : Offsets → Point → Point
moved_point o p = record p { offset = moved o p.offset }

-- the image of a kept offset lies before the images of the points after it
passed : (o : Offsets) → Rise o → (o ≢ gone) → (x y : ℕ) → Kept o x y → (ps : List Point) → All (λ p. x < p.offset) ps → Within o ps
    → All (λ q. y < q.offset) (moved_points o ps)
passed o rise live x y kept [] after within = All-nil (λ (q : Point). y < q.offset)
passed o rise live x y kept (p ∷ ps) after within =
    goes (is_kept_between o p.offset (first_offset (old_size o) ps))
    (passed o rise live x y kept ps (All-tail (λ (q : Point). x < q.offset) p ps after) (All-tail (λ (q : Point). q.offset < old_size o) p ps within))
  where
    below : p.offset < old_size o → p.offset ≤ old_size o
    below h = omega arith

    goes : (b : Bool) → All (λ q. y < q.offset) (moved_points o ps) → All (λ q. y < q.offset) (cond b (moved_point o p ∷ moved_points o ps) (moved_points o ps))
    goes false h = h
    goes true h = All-cons (λ (q : Point). y < q.offset) (moved_point o p) (moved_points o ps)
        (moved_passes o rise live x y p.offset kept (All-head (λ (q : Point). x < q.offset) p ps after)
        (below (All-head (λ (q : Point). q.offset < old_size o) p ps within))) h

-- what lies before the first of points that rise lies before them all
before_all : (end x : ℕ) (ps : List Point) → PointsRise ps → x < first_offset end ps → All (λ p. x < p.offset) ps
before_all end x [] rise less = All-nil (λ (q : Point). x < q.offset)
before_all end x (p ∷ ps) rise less =
    All-cons (λ (q : Point). x < q.offset) p ps less (λ k d there. next x p.offset _ less (pairs-head p ps rise k d there))
  where
    next : (a b c : ℕ) → a < b → b < c → a < c
    next a b c h k = omega arith

-- a point that stays lies before those after it
stays : (o : Offsets) → Rise o → (o ≢ gone) → (p : Point) (ps : List Point) → PointsRise (p ∷ ps) → Within o (p ∷ ps)
    → KeepsBetween o p.offset (first_offset (old_size o) ps)
    → All (λ q. moved o p.offset < q.offset) (moved_points o ps)
stays o rise live p ps above within k =
    let at : k.offset ≤ old_size o = fits ps k.before (All-tail (λ (q : Point). q.offset < old_size o) p ps within) in
    let image : moved o k.offset ≡ k.image = moved_kept o rise k.offset k.image k.moves in
    let le : moved o p.offset ≤ moved o k.offset = moved_never_falls o rise live p.offset k.offset k.after at in
    let less = passed o rise live k.offset k.image k.moves ps (before_all (old_size o) k.offset ps (pairs-tail p ps above) k.before)
    (All-tail (λ (q : Point). q.offset < old_size o) p ps within) in
    λ n d there. next (moved o p.offset) (moved o k.offset) k.image _ le image (less n d there)
  where
    next : (a b c d : ℕ) → a ≤ b → b ≡ c → c < d → a < d
    next a b c d h e k = omega arith

    fits : (qs : List Point) → k.offset < first_offset (old_size o) qs → Within o qs → k.offset ≤ old_size o
    fits [] less w = omega arith
    fits (q ∷ qs) less w = let head : q.offset < old_size o = All-head (λ (r : Point). r.offset < old_size o) q qs w in omega arith

rises_live : (o : Offsets) → Rise o → (o ≢ gone) → (ps : List Point) → PointsRise ps → Within o ps → PointsRise (moved_points o ps)
rises_live o rise live [] above within = above
rises_live o rise live (p ∷ ps) above within =
    let others = rises_live o rise live ps (pairs-tail p ps above) (All-tail (λ (q : Point). q.offset < old_size o) p ps within) in
    elim (cases_Bool (is_kept_between o p.offset (first_offset (old_size o) ps))) [
      | inl kept ↦ rw kept (AllPairs-cons (λ (q r : Point). q.offset < r.offset) (moved_point o p) (moved_points o ps)
          (stays o rise live p ps above within (is_kept o rise p.offset (first_offset (old_size o) ps) kept)) others)
      | inr left_out ↦ rw left_out others
    ]

gone_none : (ps : List Point) → moved_points gone ps ≡ []
gone_none [] = refl
gone_none (p ∷ ps) = goes (is_kept_between gone p.offset (first_offset (old_size gone) ps)) (no_kept p.offset (first_offset (old_size gone) ps)) (gone_none ps)
  where
    no_kept : (from to : ℕ) → is_kept_between gone from to ≡ false
    no_kept from to = grind arith

    goes : (b : Bool) → b ≡ false → moved_points gone ps ≡ [] → cond b (moved_point gone p ∷ moved_points gone ps) (moved_points gone ps) ≡ []
    goes false e none = none
    goes true e none = absurd cc

pub moved-rise : (o : Offsets) (points : List Point) → Rise o → MovedPointsRise o points
moved-rise every points rise above within = rises_live every rise (λ e. cc) points above within
moved-rise gone points rise above within = subst PointsRise (sym (gone_none points)) (λ i j d less there. absurd (omega arith))
moved-rise (lined runs old new) points rise above within = rises_live (lined runs old new) rise (λ e. cc) points above within

pub worked : MovedPointsWorked
worked = record { next = refl; hole = refl; dropped = refl }
