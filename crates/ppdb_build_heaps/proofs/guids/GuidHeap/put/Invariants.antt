use Rattle.std.proofs.Common.{◌≡◌, ◌++◌, take, flat_map}
use Rattle.ppdb_build_heaps.proofs.guids.GuidHeap.put.Given as goal

abbrev pub invariant-loop-guid : goal.invariant-loop-guid
invariant-loop-guid l = l.into ≡ l.initial.into ++ flat_map (λ guid. guid) (take l.guid-index l.guid-items)
