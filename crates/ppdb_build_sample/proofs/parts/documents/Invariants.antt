use Rattle.std.{proofs.Common.{◌≡◌, map}, specs.List.{range_with_len}}
use Rattle.ppdb_build_sample.specs.Sample.{sample_document}
use Rattle.ppdb_build_sample.proofs.parts.documents.Given as goal

abbrev pub invariant-loop-before : goal.invariant-loop-before
invariant-loop-before l = l.documents ≡ map sample_document (range_with_len 1 l.before)
