use Rattle.std.proofs.Common.{List, ap}
use Rattle.ppdb_heaps.specs.{Heaps.{blob_at}, Views.{blobs_of}}
use Rattle.type_blobs.{specs.Imports.{import_indexes, text_index}, proofs.ImportFieldsAre.{import_indexes-are}}
use Rattle.blob_grammar.specs.declared.places.PlacedIndex.{PlacedIndex}
use Rattle.ppdb_verify_total.{specs.HeapUses.{named_inside}, specs.Spans.{spanned}, proofs.Walked.{no_items, invalid_items, walk-done, walk-next, walk-over}}
use Rattle.ppdb_verify_total.proofs.inside.add_imports.Goals as goal

pub loop-next-init : goal.loop-next-init
loop-next-init c = record {
  rest = ap (λ (l : List PlacedIndex). spanned c.args.total (named_inside (blobs_of c.args.blobs) 0x35 c.args.row 1 l))
      (import_indexes-are c.args.limits (blob_at (blobs_of c.args.blobs)) c.args.content.now c.new-fields.result.items c.new-fields.ensures.fields);
  within = c.requires.within;
}

pub returns-in-Err-clause-sum : goal.returns-in-Err-clause-sum
returns-in-Err-clause-sum c =
    walk-over text_index (blobs_of c.args.blobs) 0x35 c.args.row 1 c.args.total c.loop-next.sum
    (import_indexes c.args.limits (blob_at (blobs_of c.args.blobs)) c.args.content.now) c.loop-next.fields c.loop-next.invariant.rest c.in-Some.field
    (rw c.in-Some.is at c.in-Ok.ensures.answer) c.in-Err.fault c.in-Err.ensures.sum

pub loop-next-preserved : goal.loop-next-preserved
loop-next-preserved c = record {
  rest = rw c.in-Ok.ensures.left (walk-next text_index (blobs_of c.args.blobs) 0x35 c.args.row 1 c.args.total c.loop-next.sum
      (import_indexes c.args.limits (blob_at (blobs_of c.args.blobs)) c.args.content.now) c.loop-next.fields c.loop-next.invariant.rest c.in-Some.field
      (rw c.in-Some.is at c.in-Ok.ensures.answer) c.in-Ok-add_field.after c.in-Ok-add_field.ensures.sum);
  within = c.in-Ok-add_field.ensures.within;
}

pub returns-in_default-next-clause-sum : goal.returns-in_default-next-clause-sum
returns-in_default-next-clause-sum c =
    walk-done text_index (blobs_of c.args.blobs) 0x35 c.args.row 1 c.args.total c.loop-next.sum
    (import_indexes c.args.limits (blob_at (blobs_of c.args.blobs)) c.args.content.now) c.loop-next.fields c.loop-next.invariant.rest
    (no_items c.loop-next.fields.items c.loop-next.fields.fault (rw c.in_default-next.is at c.in-Ok.ensures.answer))

pub returns-clause-sum : goal.returns-clause-sum
returns-clause-sum c =
    walk-done text_index (blobs_of c.args.blobs) 0x35 c.args.row 1 c.args.total c.loop-next.sum
    (import_indexes c.args.limits (blob_at (blobs_of c.args.blobs)) c.args.content.now) c.loop-next.fields c.loop-next.invariant.rest
    (invalid_items c.loop-next.fields.items c.loop-next.fields.fault c.in_default.field-0 c.in_default.ensures.answer)
