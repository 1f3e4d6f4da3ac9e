use Rattle.std.proofs.Common.{◌≤◌, [], ◌∷◌, length}
use Rattle.ppdb_heaps.specs.{Names.{name_indexes}, Views.{blobs_of}}
use Rattle.ppdb_base.specs.declared.limits.TheConstants.{MAX_SPAN}
use Rattle.ppdb_verify_total.proofs.Walked.{GoesOn}
use Rattle.ppdb_verify_total.proofs.inside.add_parts.Given as goal

abbrev pub invariant-loop-next : goal.invariant-loop-next
invariant-loop-next l = record {
  rest : GoesOn (λ x. x ∷ []) (blobs_of l.fn.blobs) 0x30 l.fn.row 0 l.fn.total l.sum (name_indexes (blobs_of l.fn.blobs) l.fn.content) l.indexes;
  within : l.sum ≤ MAX_SPAN;
}

abbrev pub decreases-loop-next : goal.decreases-loop-next
decreases-loop-next l = length l.indexes.items
