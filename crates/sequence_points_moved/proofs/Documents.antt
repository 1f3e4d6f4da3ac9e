-- The common document of points of which the first is known.
use Rattle.std.{proofs.Common.{◌≡◌, Bool, true, false, List, ◌∷◌, refl, ap}, specs.Prelude.{All, ◌==◌, if◌then◌else◌}, specs.List.{list_all}}
use Rattle.sequence_points.{specs.declared.point.Point.{Point}, specs.Points.{common_document}, proofs.Single.{all-in_one, in_one-all}}

pub common_one : (first : Point) (ps : List Point) → All (λ q. q.document ≡ first.document) (first ∷ ps) → common_document (first ∷ ps) ≡ first.document
common_one first ps h = ap (λ b. if b then first.document else 0) (all-in_one first.document (first ∷ ps) h)

pub common_several : (first : Point) (ps : List Point) → (All (λ q. q.document ≡ first.document) (first ∷ ps) → ⊥) → common_document (first ∷ ps) ≡ 0
common_several first ps differ = by_test (list_all (λ (q : Point). q.document == first.document) (first ∷ ps)) refl
  where
    by_test : (b : Bool) → list_all (λ (q : Point). q.document == first.document) (first ∷ ps) ≡ b → (if b then first.document else 0) ≡ 0
    by_test true e = absurd (differ (in_one-all first.document (first ∷ ps) e))
    by_test false e = refl

-- a common document is the first point's
pub common_first : (first : Point) (ps : List Point) → (common_document (first ∷ ps) ≡ 0 → ⊥) → first.document ≡ common_document (first ∷ ps)
common_first first ps some = by_test (list_all (λ (q : Point). q.document == first.document) (first ∷ ps)) some
  where
    by_test : (b : Bool) → ((if b then first.document else 0) ≡ 0 → ⊥) → first.document ≡ (if b then first.document else 0)
    by_test true e = refl
    by_test false e = absurd (e refl)
