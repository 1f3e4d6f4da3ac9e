-- The canonical blob of points reads whole, as these points.
use Rattle.std.{proofs.Common.{◌≡◌, ℕ, ◌<◌, ◌≤◌, Bool, true, false, List, [], ◌∷◌, ◌++◌, sym, ap, subst, arith, None}, specs.Prelude.{◌^◌, All, length, ◌==◌}}
use Rattle.std.{specs.Prelude.{if◌then◌else◌}, specs.List.{list_all}, proofs.lemmas.List.Elements.{All-head}}
use Rattle.cli_ints.specs.Shortest.{short_unsigned}
use Rattle.sequence_points.specs.{declared.point.Point.{Point}, Points.{PointsReading, common_document}, Written.{CanBeWritten, large_steps, points_blob}}
use Rattle.sequence_points.{specs.Written.{initial_document, points_bytes}, proofs.Follows.{few_points}, proofs.Reread.{written_points}}
use Rattle.sequence_points_packed.{specs.Packed.{packed_limits, points_in, IsPacked}, proofs.Readings.{points_are}}

either_small : (b : Bool) (row : ℕ) → row ≤ 0x1fffffff → (if b then row else 0) ≤ 0x1fffffff
either_small true row small = small
either_small false row small = omega arith

common_small : (points : List Point) → All (λ p. p.document ≤ 0x1fffffff) points → common_document points ≤ 0x1fffffff
common_small [] small = omega arith
common_small (p ∷ ps) small =
    either_small (list_all (λ q. q.document == p.document) (p ∷ ps)) p.document (All-head (λ (q : Point). q.document ≤ 0x1fffffff) p ps small)

documents_small : (points : List Point) → CanBeWritten 0 points → All (λ p. p.document ≤ 0x1fffffff) points
documents_small points w = λ k d within. let there = w.documents k d within in let most = there.1 in omega (arith, most)

reads : (points : List Point) → CanBeWritten 0 points → large_steps [] points ≡ []
    → PointsReading (common_document points) packed_limits (points_blob 0 points) 0 points None
reads points w steps = written_points 0 points packed_limits w steps (omega arith) (documents_small points w)

one_more : (b : ℕ) (bs : List ℕ) → 0 < length (b ∷ bs)
one_more b bs = omega arith

blob_some : (points : List Point) → 0 < length (points_blob 0 points)
unfolding short_unsigned
blob_some points = one_more 0 (initial_document (common_document points) points ++ points_bytes [] points)

pub seen_as : (points : List Point) (blob : List ℕ) → CanBeWritten 0 points → large_steps [] points ≡ [] → blob ≡ points_blob 0 points
    → points_in (common_document points) blob ≡ points
seen_as points blob w steps is =
    points_are (common_document points) 0 blob points None
    (subst (λ (b : List ℕ). PointsReading (common_document points) packed_limits b 0 points None) (sym is) (reads points w steps))

pub is_packed : (points : List Point) (blob : List ℕ) → CanBeWritten 0 points → large_steps [] points ≡ [] → blob ≡ points_blob 0 points
    → length blob < 2 ^ 32 → IsPacked (common_document points) (length points) blob
is_packed points blob w steps is short = record {
  some = subst (λ (b : List ℕ). 0 < length b) (sym is) (blob_some points);
  short = short;
  column_is = common_small points (documents_small points w);
  count_is = ap (λ (ps : List Point). length ps) (sym (seen_as points blob w steps is));
  whole = subst (λ (ps : List Point). PointsReading (common_document points) packed_limits blob 0 ps None) (sym (seen_as points blob w steps is))
      (subst (λ (b : List ℕ). PointsReading (common_document points) packed_limits b 0 points None) (sym is) (reads points w steps));
}

pub few : (points : List Point) → CanBeWritten 0 points → length points < 4294967296
few points w = few_points points w.offsets w.rise
