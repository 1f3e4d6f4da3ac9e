use Rattle.std.proofs.Common.{◌≡◌, take, fold}
use Rattle.ppdb_build_draft.specs.Draft.{with_constant}
use Rattle.ppdb_build.proofs.parts.add_constants.Given as goal

abbrev pub invariant-loop-constant : goal.invariant-loop-constant
invariant-loop-constant l = l.draft ≡ fold with_constant l.initial.draft (take l.constant-index l.constants)
