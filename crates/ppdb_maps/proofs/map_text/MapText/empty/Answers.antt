use Rattle.std.proofs.Common.{rules}
use Rattle.ppdb_maps.proofs.Readable.{empty_readable}
use Rattle.ppdb_maps.proofs.map_text.MapText.empty.Goals as goal

pub invariant_of-result : goal.invariant_of-result
invariant_of-result c = search (rules, empty_readable)
