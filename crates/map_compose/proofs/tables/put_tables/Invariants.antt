use Rattle.std.specs.List.{flat_map, range_with_len}
use Rattle.map_compose.specs.Says.{PutsLines, table_says}
use Rattle.map_compose.proofs.tables.put_tables.Given as goal

abbrev pub invariant-tables : goal.invariant-tables
invariant-tables l = PutsLines l.fn.text l.text (flat_map (table_says l.first l.second) (range_with_len 0 l.table))
