use Rattle.std.{proofs.Common.{◌≡◌, map}, specs.List.{range_with_len}}
use Rattle.ppdb_build_sample.specs.Sample.{sample_method}
use Rattle.ppdb_build_sample.proofs.methods.methods.Given as goal

abbrev pub invariant-loop-before : goal.invariant-loop-before
invariant-loop-before l = l.methods ≡ map sample_method (range_with_len 1 l.before)
