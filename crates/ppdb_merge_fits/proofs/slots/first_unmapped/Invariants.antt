use Rattle.std.proofs.Common.{◌≡◌, [], take, flat_map}
use Rattle.ppdb_tables.specs.RawTables.{numbered}
use Rattle.ppdb_merge_fits.specs.Slots.{if_slot_unmapped}
use Rattle.ppdb_merge_fits.proofs.slots.first_unmapped.Given as goal

abbrev pub invariant-loop-x : goal.invariant-loop-x
invariant-loop-x l = (l.row ≡ l.x-index) × (flat_map (if_slot_unmapped l.map) (take l.x-index (numbered l.slots)) ≡ [])
