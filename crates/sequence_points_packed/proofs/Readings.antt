-- A blob reads as one list of points, which is what it is seen as.
use Rattle.std.proofs.Common.{◌≡◌, ℕ, List, [], Option, Some, None, sym, ap, ◌∙◌}
use Rattle.ppdb_base.specs.declared.BlobFault.{BlobFault}
use Rattle.blob_grammar.{specs.Reading.{Reading}, specs.Reader.{Left, read_from}, proofs.Readers.{read_from-reads}, proofs.Unique.{reading-unique}}
use Rattle.sequence_points.specs.{declared.point.Point.{Point}, Points.{PointsReading, points_after}, Records.{Entry, sequence_points}}
use Rattle.sequence_points_packed.specs.Packed.{packed_limits, points_in, IsPacked}

pub points_are : (column signature : ℕ) (blob : List ℕ) (points : List Point) (fault : Option BlobFault)
    → PointsReading column packed_limits blob signature points fault → points_in column blob ≡ points
unfolding points_in
points_are column signature blob points fault h =
    ap (λ (entries : List Entry). points_after [] entries)
    (reading-unique (sequence_points column packed_limits) blob (read_from (sequence_points column packed_limits) [] [] 0 blob).items h.entries
    (read_from (sequence_points column packed_limits) [] [] 0 blob).fault fault (read_from-reads (sequence_points column packed_limits) blob) h.reading).0
    ∙ sym h.points_are

-- the fault of a whole blob
pub fault_is : (column count : ℕ) (blob : List ℕ) (entries : List Entry) (fault : Option BlobFault) → IsPacked column count blob
    → Reading (sequence_points column packed_limits) blob entries fault → fault ≡ None
fault_is column count blob entries fault p h =
    (reading-unique (sequence_points column packed_limits) blob entries p.whole.entries fault None h p.whole.reading).1

pub no_fault : (column count : ℕ) (blob : List ℕ) (entries : List Entry) (fault : BlobFault) → IsPacked column count blob
    → Reading (sequence_points column packed_limits) blob entries (Some fault) → ⊥
no_fault column count blob entries fault p h = let e : Some fault ≡ None = fault_is column count blob entries (Some fault) p h in cc

abbrev left_of : List Point → Option BlobFault → Left Point
left_of items fault = record { items = items; fault = fault }

pub left_is : (left : Left Point) (items : List Point) (fault : Option BlobFault) → left.items ≡ items → left.fault ≡ fault → left ≡ left_of items fault
left_is left items fault same none = ap (λ (all : List Point). left_of all left.fault) same ∙ ap (λ (f : Option BlobFault). left_of items f) none
