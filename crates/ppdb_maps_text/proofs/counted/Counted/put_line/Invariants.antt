use Rattle.std.{proofs.Common.{map, take}, specs.Fmt.{decimal}}
use Rattle.ppdb_maps_text.specs.{MapTexts.{spaced}, Putting.{Puts}}
use Rattle.ppdb_maps_text.proofs.counted.Counted.put_line.Given as goal

abbrev pub invariant-loop-number : goal.invariant-loop-number
invariant-loop-number l = Puts l.fn.self l.self (spaced l.words (map decimal (take l.number-index l.numbers)))
