use Rattle.std.proofs.Common.{All, take}
use Rattle.ppdb_values.specs.Types.{IsGuid}
use Rattle.ppdb_build_limits.proofs.types.kinds_are_guids.Given as goal

abbrev pub invariant-loop-custom : goal.invariant-loop-custom
invariant-loop-custom l = All (λ custom. IsGuid custom.kind) (take l.custom-index l.customs)
