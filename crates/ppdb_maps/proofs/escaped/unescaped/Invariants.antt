-- The bytes so far are those of the word before what is left.
use Rattle.std.proofs.Common.{length}
use Rattle.ppdb_maps.proofs.Spelled.{ReadBytes}
use Rattle.ppdb_maps.proofs.escaped.unescaped.Given as goal

abbrev pub invariant-loop-rest : goal.invariant-loop-rest
invariant-loop-rest l = ReadBytes l.fn.word l.bytes l.rest

abbrev pub decreases-loop-rest : goal.decreases-loop-rest
decreases-loop-rest l = length l.rest
