use Rattle.std.{proofs.Common.{◌≡◌, take}, specs.List.{filter_map}}
use Rattle.ppdb_merge_fits.specs.Slots.{used}
use Rattle.ppdb_merge_fits.proofs.slots.used_slots.Given as goal

abbrev pub invariant-loop-x : goal.invariant-loop-x
invariant-loop-x l = l.all.items ≡ filter_map (used l.map) (take l.x-index l.slots)
