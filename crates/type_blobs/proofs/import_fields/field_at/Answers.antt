use Rattle.std.{proofs.Common.{◌≡◌, ◌⊎◌, inl, inr, length, sym}, specs.Prelude.{◌≢◌}, proofs.lemmas.Result.{err_from_is_err_and}}
use Rattle.type_blobs.{specs.ImportReading.{heap_of}, proofs.FieldsLeft.{fields-end, fields-refused, fields-taken}}
use Rattle.type_blobs.proofs.import_fields.field_at.Goals as goal
use Rattle.type_blobs.proofs.import_fields.field_at.Goals.{else-place-eq0-via-then-place-eq0+else-place-source, else-place-eq0-via-else-place-eq0}

pub returns-then-place-source : goal.returns-then-place-source
returns-then-place-source c =
    fields-end c.args.source.now.limits (heap_of c.args.source.now.blobs) c.args.source.now.blob.now c.args.place c.if-place-eq0.true c.if-place-source.true

pub returns-in_err-number : goal.returns-in_err-number
returns-in_err-number c =
    let p = err_from_is_err_and c.from_residual.result c.from_residual.ensures.1 in
    let more : (c.args.place.at ≡ length c.args.source.now.blob.now → ⊥) ⊎ (c.args.place.fields ≢ 0) = elim c.else-place-eq0.branch [
      | else-place-eq0-via-then-place-eq0+else-place-source w ↦ inl w.if-place-source.false
      | else-place-eq0-via-else-place-eq0 w ↦ inr w.if-place-eq0.false
    ] in
    rw (p.1, p.2) (fields-refused c.args.source.now.limits (heap_of c.args.source.now.blobs) c.args.source.now.blob.now c.args.place c.part_after-part.result
    c.in_err-number.field-0.0 c.requires.within more c.part_after-part.ensures (sym c.in_err-number.ensures.found))

pub returns : goal.returns
returns c = (
  fields-taken c.args.source.now.limits (heap_of c.args.source.now.blobs) c.args.source.now.blob.now c.args.place (record {
    kind = c.begun_after-kind.result.0;
    fields = c.begun_after-kind.result.1;
    at = c.in_ok-number.at;
  }) c.part_after-part.result c.in_ok-number.number c.part_after-part.ensures
      (sym c.in_ok-number.ensures.found) (c.begun_after-kind.ensures.shape c.args.source.now.limits (heap_of c.args.source.now.blobs)),
  record { within = c.in_ok-number.ensures.within; begun = c.begun_after-kind.ensures.begun },
)
