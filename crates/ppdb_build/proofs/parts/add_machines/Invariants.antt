use Rattle.std.proofs.Common.{◌≡◌, take, fold}
use Rattle.ppdb_build_draft.specs.Draft.{with_machine}
use Rattle.ppdb_build.proofs.parts.add_machines.Given as goal

abbrev pub invariant-loop-machine : goal.invariant-loop-machine
invariant-loop-machine l = l.draft ≡ fold with_machine l.initial.draft (take l.machine-index l.machines)
