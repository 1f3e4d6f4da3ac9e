use Rattle.std.{proofs.Common.{◌≡◌, map}, specs.List.{filter, range_with_len}}
use Rattle.ppdb_build_sample.{specs.Sample.{sample_custom}, proofs.Annotated.{is_fourth}}
use Rattle.ppdb_build_sample.proofs.hoisted.customs.Given as goal

abbrev pub invariant-loop-before : goal.invariant-loop-before
invariant-loop-before l = l.customs ≡ map sample_custom (filter is_fourth (range_with_len 1 l.before))
