-- The debug information of methods keeps its rules.
use Rattle.std.{proofs.Common.{◌≡◌, ◌≢◌, ℕ, ◌⊎◌, List, [], ◌∷◌, length, refl, ◌∙◌, inl, inr}, specs.Prelude.{Some}, proofs.lemmas.Bool.{cases_eq}}
use Rattle.ppdb_base.specs.{declared.code.Code.{Code}, First.{IsAccepted}}
use Rattle.ppdb_heaps.specs.Heaps.{blob_at}
use Rattle.ppdb_tables.specs.{declared.rows.MethodDebugRow.{MethodDebugRow}, RawTables.{RawTables, HasShape, count, row_at}}
use Rattle.sequence_points.specs.Records.{sequence_points}
use Rattle.ppdb_verify_rules.specs.{Blobs.{IsNil}, Rows.{RowFaults, MethodDebugFault}, Rows.RowFaults.{in_method}, Rows.MethodDebugFault.{no_document, no_points}}
use Rattle.ppdb_verify_rules.specs.Rows.MethodDebugFault.{invalid_points}
use Rattle.ppdb_values.specs.{RawFile.{blob, point_limits}, Rules.{HasBlob, IsMethod, IsWhole, KeepsMethods}}
use Rattle.ppdb_verify_accepted_laws.proofs.Items.{blob_there, row_named, whole}

no_rows : {X : Type 0} (rows : List X) → length rows ≡ 0 → rows ≡ []
no_rows [] none = refl
no_rows (x ∷ xs) none = cc

not_nil : (raw : RawTables) (index b : ℕ) (bytes : List ℕ) → blob_at raw.blobs index ≡ Some (b ∷ bytes) → IsNil raw.blobs index → ⊥
not_nil raw index b bytes there nil = cc

module _ (raw : RawTables) (accepted : IsAccepted (RowFaults raw)) where
  module _ (row : ℕ) (x : MethodDebugRow) (here : row_at raw.methods row ≡ Some x) where
    no_fault : {column byte : ℕ} {code : Code} → MethodDebugFault raw row x column byte code → ⊥
    no_fault fault = accepted _ _ (in_method here fault)

    points_whole : (content : List ℕ) → blob_at raw.blobs x.points ≡ Some content
        → (content ≡ []) ⊎ IsWhole (sequence_points x.document (point_limits raw)) content
    points_whole [] there = inl refl
    points_whole (b ∷ bytes) there = inr (whole (sequence_points x.document (point_limits raw)) (b ∷ bytes) (λ fault reads.
        no_fault (invalid_points {fault = fault} (not_nil raw x.points b bytes there) (record { content = b ∷ bytes; there = there; reads = reads }))))

    points_there : HasBlob raw x.points
    points_there = blob_there raw x.points (λ none. no_fault (no_points none))

    kept : IsMethod raw x
    kept = record {
      document = (row_named 0 (count raw 0x30) x.document (λ none. no_fault (no_document none))).1;
      points = points_there;
      points_whole = points_whole (blob raw x.points) points_there;
    }

  pub methods_kept : HasShape raw → (count raw 0x31 ≢ 0 → count raw 0x31 ≡ count raw 0x06) → KeepsMethods raw
  methods_kept shape counted = record {
    each = kept;
    rows = elim (cases_eq (count raw 0x31) 0) [
      | inl none ↦ inl (no_rows raw.methods (shape.methods ∙ none))
      | inr some ↦ inr (shape.methods ∙ counted some)
    ];
  }
