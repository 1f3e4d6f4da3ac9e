-- A value meets the same limits with another identity.
use Rattle.std.{proofs.Common.{◌≡◌, ℕ, List, [], ◌∷◌, length, refl, ap, ◌∙◌}, specs.Prelude.{Option}, specs.List.{filter_map}}
use Rattle.sequence_points.specs.Written.{first_of}
use Rattle.ppdb_base.specs.declared.limits.{Limit.{Limit}, Limit.TheVariants.{FileSize, SpanTotal}}
use Rattle.ppdb_values.specs.{declared.file.FileValue.{FileValue}, RawFile.{RawFile}}
use Rattle.ppdb_build_layout.specs.Bytes.{file_bytes}
use Rattle.ppdb_build_canon.specs.{Canon.{with_id}, Canonical.{canonical}, Laws.{CanonicalFilesForgetIds, IdsStandAfterTheRoot}, Limits.{above, first_limit}}
use Rattle.ppdb_build_canon.specs.Limits.{first_met, large_offset, large_step_of, list_past_end, span, tables, too_many_rows}

-- the first limit of a value whose file has so many bytes
abbrev limit_by : FileValue → ℕ → Option Limit
limit_by value size =
    first_met (first_of (filter_map (too_many_rows value) tables)
    ∷ list_past_end value 0x33 (λ scope. length scope.variables) ∷ list_past_end value 0x34 (λ scope. length scope.constants)
    ∷ first_of (filter_map large_offset value.methods) ∷ first_of (filter_map large_step_of value.methods)
    ∷ above 134217728 FileSize size ∷ above 268435456 SpanTotal (span value) ∷ [])

same_limit : (value : FileValue) (id : List ℕ) (size : ℕ) → limit_by (with_id value id) size ≡ limit_by value size
unfolding span
same_limit value id size = refl

-- the file of the value has as many bytes
same_size : CanonicalFilesForgetIds → IdsStandAfterTheRoot → (value : FileValue) (id : List ℕ) → length value.id ≡ 20 → length id ≡ 20
    → length (file_bytes (canonical (with_id value id) id)) ≡ length (file_bytes (canonical value value.id))
same_size forget stand value id own other =
    ap (λ (raw : RawFile). length (file_bytes raw)) (forget.rows value id id) ∙ stand.len (canonical value value.id) id own other

pub limit_stays : CanonicalFilesForgetIds → IdsStandAfterTheRoot → (value : FileValue) (id : List ℕ) → length value.id ≡ 20 → length id ≡ 20
    → first_limit (with_id value id) ≡ first_limit value
limit_stays forget stand value id own other =
    same_limit value id (length (file_bytes (canonical (with_id value id) id))) ∙ ap (limit_by value) (same_size forget stand value id own other)
