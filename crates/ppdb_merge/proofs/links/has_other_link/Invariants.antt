use Rattle.std.{proofs.Common.{◌≡◌, false, take}, specs.List.{list_any}}
use Rattle.ppdb_merge.proofs.Linked.{input_has}
use Rattle.ppdb_merge.proofs.links.has_other_link.Given as goal

abbrev pub invariant-loop-trace : goal.invariant-loop-trace
invariant-loop-trace l = list_any (input_has l.row l.value) (take l.trace-index l.traces) ≡ false
