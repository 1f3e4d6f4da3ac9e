use Rattle.std.proofs.Common.{arith}
use Rattle.ppdb_heaps.proofs.Zeros.{none_behind}
use Rattle.ppdb_heaps.proofs.strings.zeros_end.Goals as goal

pub loop-end-init : goal.loop-end-init
loop-end-init c = record { within = omega arith; ended = none_behind c.args.bytes.now }
