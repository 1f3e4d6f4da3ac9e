use Rattle.std.proofs.Common.{◌≡◌, map}
use Rattle.ppdb_merge_joined.specs.Parts.{finished}
use Rattle.ppdb_merge_joined.proofs.joining.documents_of.Given as goal

abbrev pub invariant-loop-document : goal.invariant-loop-document
invariant-loop-document l = l.documents ≡ map finished l.yielded
