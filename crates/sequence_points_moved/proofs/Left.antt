-- The points that are left, after the first of them.
use Rattle.std.proofs.{Common.{◌≡◌, ℕ, ◌<◌, ◌≤◌, List, [], ◌∷◌, subst, arith}, lemmas.List.Elements.{All-head, All-tail}}
use Rattle.ppdb_base.specs.Offsets.{Offsets, old_size}
use Rattle.sequence_points.{specs.declared.point.Point.{Point}, specs.MovedPoints.{first_offset}, proofs.Follows.{pairs-head, pairs-tail}}
use Rattle.sequence_points_moved.specs.Writing.{CanMove, CanAllMove}

-- the first can be moved
pub first_can : (o : Offsets) (documents : List ℕ) (all : List Point) (p : Point) (ps : List Point) → all ≡ p ∷ ps → CanAllMove o documents all
    → CanMove o documents p
first_can o documents all p ps cut can = All-head (CanMove o documents) p ps (subst (CanAllMove o documents) cut can).each

-- so can the others
pub others_can : (o : Offsets) (documents : List ℕ) (all : List Point) (p : Point) (ps : List Point) → all ≡ p ∷ ps → CanAllMove o documents all
    → CanAllMove o documents ps
others_can o documents all p ps cut can =
    let these = subst (CanAllMove o documents) cut can in
    record { rise = pairs-tail p ps these.rise; each = All-tail (CanMove o documents) p ps these.each }

-- the first lies before the next one, or before the greatest number
pub before_next : (o : Offsets) (documents : List ℕ) (all : List Point) (p : Point) (ps : List Point) (end : ℕ) → old_size o ≤ 4294967295
    → all ≡ p ∷ ps → end ≡ first_offset 4294967295 ps → CanAllMove o documents all → p.offset < end
before_next o documents all p [] end le cut ends can = omega (arith, (first_can o documents all p [] cut can).below, ends)
before_next o documents all p (q ∷ qs) end le cut ends can =
    let these = subst (CanAllMove o documents) cut can in
    let less : p.offset < q.offset = All-head (λ (r : Point). p.offset < r.offset) q qs (pairs-head p (q ∷ qs) these.rise) in
    omega (arith, less, ends)
