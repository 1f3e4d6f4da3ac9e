use Rattle.std.proofs.Common.{◌≡◌, ◌++◌, map, take, drop}
use Rattle.ppdb_merge_moved.specs.Moved.{linked}
use Rattle.ppdb_merge_moved.proofs.named.link_customs.Given as goal

abbrev pub invariant-loop-custom : goal.invariant-loop-custom
invariant-loop-custom l = l.customs ≡ map (linked l.by) (take l.custom-index l.initial.customs) ++ drop l.custom-index l.initial.customs
