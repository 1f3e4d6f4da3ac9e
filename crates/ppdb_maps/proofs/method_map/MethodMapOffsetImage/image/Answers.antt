use Rattle.std.proofs.Common.{arith}
use Rattle.ppdb_maps.proofs.Lines.{every_stops}
use Rattle.ppdb_maps.proofs.method_map.MethodMapOffsetImage.image.Goals as goal

pub returns-in-Every-clause-some : goal.returns-in-Every-clause-some
returns-in-Every-clause-some c = rw c.in-Every.is (every_stops _ (omega arith))
