use Rattle.std.proofs.Common.{◌≡◌, ℕ, ◌+◌, ◌-◌, ◌^◌}
use denote.Param.Always.{always_mut}
use Rattle.ppdb_cli_files.proofs.Tries.{Leaves}
use Rattle.ppdb_cli_files.proofs.streams.retried.Given as goal

abbrev pub invariant-loop : goal.invariant-loop
invariant-loop g l = (always_mut g.F.FnMut l.initial.call → always_mut g.F.FnMut l.call)
    × ((left : ℕ) × (left + l.counter ≡ 2 ^ 64 - 1) × Leaves (goal.F-step g) (2 ^ 64 - 1) left l.initial.call l.call)
