use Rattle.std.proofs.Common.{◌≤◌, length}
use Rattle.ppdb_heaps.specs.{Heaps.{blob_at}, Views.{blobs_of}}
use Rattle.type_blobs.specs.Imports.{import_indexes, text_index}
use Rattle.ppdb_base.specs.declared.limits.TheConstants.{MAX_SPAN}
use Rattle.ppdb_verify_total.proofs.Walked.{GoesOn}
use Rattle.ppdb_verify_total.proofs.inside.add_imports.Given as goal

abbrev pub invariant-loop-next : goal.invariant-loop-next
invariant-loop-next l = record {
  rest : GoesOn text_index (blobs_of l.fn.blobs) 0x35 l.fn.row 1 l.fn.total l.sum (import_indexes l.fn.limits (blob_at (blobs_of l.fn.blobs)) l.fn.content)
      l.fields;
  within : l.sum ≤ MAX_SPAN;
}

abbrev pub decreases-loop-next : goal.decreases-loop-next
decreases-loop-next l = length l.fields.items
