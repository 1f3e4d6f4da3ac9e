use Rattle.std.proofs.Common.{subst, arith}
use Rattle.ppdb_values.specs.Types.{HasGuids}
use Rattle.ppdb_build_limits.proofs.Firsts.{all_more, all_whole}
use Rattle.ppdb_build_limits.proofs.types.documents_have_guids.Goals as goal

pub loop-document-preserved : goal.loop-document-preserved
loop-document-preserved c =
    all_more HasGuids c.args.documents.now c.loop-document.document-index c.document-item.result (omega arith) c.loop-document.invariant
    (subst HasGuids c.document-item.is (c.guids_are_long.ensures, c.guids_are_long-in-loop-document.ensures))

pub returns : goal.returns
returns c = all_whole HasGuids c.args.documents.now c.loop-document.document-index (omega arith) c.loop-document.invariant
