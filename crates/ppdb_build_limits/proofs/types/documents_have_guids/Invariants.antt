use Rattle.std.proofs.Common.{All, take}
use Rattle.ppdb_values.specs.Types.{HasGuids}
use Rattle.ppdb_build_limits.proofs.types.documents_have_guids.Given as goal

abbrev pub invariant-loop-document : goal.invariant-loop-document
invariant-loop-document l = All HasGuids (take l.document-index l.documents)
