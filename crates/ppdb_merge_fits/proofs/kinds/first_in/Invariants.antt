use Rattle.std.proofs.Common.{◌≡◌, [], take, flat_map}
use Rattle.ppdb_tables.specs.RawTables.{numbered}
use Rattle.ppdb_merge_fits.specs.Clashes.{if_unknown}
use Rattle.ppdb_merge_fits.proofs.kinds.first_in.Given as goal

abbrev pub invariant-loop-custom : goal.invariant-loop-custom
invariant-loop-custom l = (l.row ≡ l.custom-index) × (flat_map (if_unknown l.marks l.rows.0 l.rows.1) (take l.custom-index (numbered l.customs)) ≡ [])
