-- The blobs of a valid file are whole, and so are what is read of them.
use Rattle.std.{proofs.Common.{ℕ, ◌≡◌, ◌≢◌, List, [], ◌∷◌, refl, sym, ◌∙◌, ap, inl, inr, arith}, specs.Prelude.{Option, Some, None, Result, Ok}}
use Rattle.ppdb_base.specs.declared.BlobFault.{BlobFault}
use Rattle.blob_grammar.{specs.Grammar.{Grammar}, specs.Reading.{Reading}, specs.Reader.{answer_from, tail}, proofs.Unique.{reading-unique}}
use Rattle.sequence_points.specs.{declared.point.Point.{Point}, Records.{sequence_points}, Points.{PointsReading}}
use Rattle.ppdb_tables.specs.{declared.rows.MethodDebugRow.{MethodDebugRow}, RawTables.{RawTables, row_at}}
use Rattle.ppdb_values.specs.{RawFile.{blob, records_of, point_limits}, Documents.{points_in, signature_in}, Rules.{IsWhole, KeepsMethods}}
use Rattle.ppdb_values.proofs.Readings.{points_are, signature_is}

none_some : {X : Type 0} (x : X) → Some x ≡ None → ⊥
none_some x e = grind (arith, e)

-- a whole blob has no fault
pub never_fails : {R : Type 0} (g : Grammar R) (content : List ℕ) (records : List R) (fault : BlobFault) → IsWhole g content
    → Reading g content records (Some fault) → ⊥
never_fails g content records fault whole failing = none_some fault (reading-unique g content records (records_of g content) (Some fault) None failing whole).1

-- and its records are those
pub all_read : {R : Type 0} (g : Grammar R) (content : List ℕ) (records : List R) (fault : Option BlobFault) → IsWhole g content
    → Reading g content records fault → (records ≡ records_of g content) × (fault ≡ None)
all_read g content records fault whole read = reading-unique g content records (records_of g content) fault None read whole

-- ---- points

pub points_whole : (raw : RawTables) (row : ℕ) (method : MethodDebugRow) → KeepsMethods raw → row_at raw.methods row ≡ Some method → blob raw method.points ≢ []
    → IsWhole (sequence_points method.document (point_limits raw)) (blob raw method.points)
points_whole raw row method keeps e some = elim ((keeps.each row method e).points_whole) [
  | inl nil ↦ absurd (some nil)
  | inr whole ↦ whole
]

pub points_read : (raw : RawTables) (column signature : ℕ) (content : List ℕ) (points : List Point) (fault : Option BlobFault)
    → IsWhole (sequence_points column (point_limits raw)) content
    → PointsReading column (point_limits raw) content signature points fault
    → (fault ≡ None) × ((points ≡ points_in raw column content) × (signature_in raw column content ≡ Some signature))
points_read raw column signature content points fault whole read = (
  (all_read (sequence_points column (point_limits raw)) content read.entries fault whole read.reading).1,
  (sym (points_are raw column signature content points fault read), signature_is raw column signature content points fault read),
)

-- ---- the answers of cursors

pub answers_some : {X : Type 0} (items : List X) (fault : Option BlobFault) (x : X) → answer_from items fault ≡ Ok (Some x) → items ≡ x ∷ tail items
answers_some [] None x e = absurd (grind (arith, e))
answers_some [] (Some fault) x e = absurd (grind (arith, e))
answers_some (y ∷ ys) fault x e = cc

pub answers_none : {X : Type 0} (items : List X) (fault : Option BlobFault) → answer_from items fault ≡ Ok None → items ≡ []
answers_none [] None e = refl
answers_none [] (Some fault) e = refl
answers_none (y ∷ ys) fault e = absurd (grind (arith, e))

-- an answer that gives an item gives the first that is left
pub answered : {X : Type 0} (items : List X) (fault : Option BlobFault) (x : X) (r : Result (Option X) BlobFault) (o : Option X)
    → r ≡ answer_from items fault → r ≡ Ok o → o ≡ Some x → items ≡ x ∷ tail items
answered items fault x r o a b c = answers_some items fault x (sym a ∙ b ∙ ap (λ (p : Option _). Ok p) c)

pub ended : {X : Type 0} (items : List X) (fault : Option BlobFault) (r : Result (Option X) BlobFault) (o : Option X)
    → r ≡ answer_from items fault → r ≡ Ok o → o ≡ None → items ≡ []
ended items fault r o a b c = answers_none items fault (sym a ∙ b ∙ ap (λ (p : Option _). Ok p) c)
