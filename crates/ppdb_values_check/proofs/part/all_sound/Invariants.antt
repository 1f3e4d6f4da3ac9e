use Rattle.std.{proofs.Common.{take}, specs.Prelude.{All}}
use Rattle.ppdb_values_check.proofs.part.all_sound.Given as goal

abbrev pub invariant-loop-part : goal.invariant-loop-part
invariant-loop-part g l = All (g.T.Part.sound l.counted) (take l.part-index l.parts)
