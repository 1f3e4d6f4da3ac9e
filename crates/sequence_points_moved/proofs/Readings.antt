-- A blob reads as one list of points.
use Rattle.std.proofs.Common.{◌≡◌, ℕ, List, [], Option, Some, None, sym, ap, ◌∙◌}
use Rattle.ppdb_base.specs.declared.BlobFault.{BlobFault}
use Rattle.blob_grammar.{specs.Reading.{Reading}, proofs.Unique.{read-once}}
use Rattle.sequence_points.specs.{declared.point.Point.{Point}, declared.point.PointLimits.{PointLimits}, Points.{PointsReading, points_after}, Records.{Entry}}
use Rattle.sequence_points.specs.Records.{sequence_points}
use Rattle.sequence_points_moved.specs.Conditions.{IsWhole}

pub same_points : (column : ℕ) (limits : PointLimits) (blob : List ℕ) (s t : ℕ) (ps qs : List Point) (a b : Option BlobFault)
    → PointsReading column limits blob s ps a → PointsReading column limits blob t qs b → (ps ≡ qs) × (a ≡ b)
same_points column limits blob s t ps qs a b r q =
    let once = read-once (sequence_points column limits) blob in
    let x = once.one_reading r.entries a r.reading in
    let y = once.one_reading q.entries b q.reading in
    (r.points_are ∙ ap (points_after []) (x.0 ∙ sym y.0) ∙ sym q.points_are, x.1 ∙ sym y.1)

pub no_fault : (column : ℕ) (limits : PointLimits) (blob : List ℕ) (entries : List Entry) (fault : BlobFault) → IsWhole column limits blob
    → Reading (sequence_points column limits) blob entries (Some fault) → ⊥
no_fault column limits blob entries fault whole reading =
    let once = read-once (sequence_points column limits) blob in
    let x = once.one_reading entries (Some fault) reading in
    let y = once.one_reading whole.2.entries None whole.2.reading in
    let e : Some fault ≡ None = x.1 ∙ sym y.1 in cc
