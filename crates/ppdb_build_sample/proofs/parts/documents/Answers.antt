use Rattle.ppdb_build_sample.{specs.Sample.{sample_document}, proofs.Counting.{one_more}}
use Rattle.ppdb_build_sample.proofs.parts.documents.Goals as goal

pub loop-before-preserved : goal.loop-before-preserved
loop-before-preserved c = one_more sample_document c.loop-before.documents c.push.new.self c.in_ok-document.field-0 c.loop-before.before
    c.loop-before.invariant c.in_ok-document.ensures c.in_ok-push.ensures.ok
