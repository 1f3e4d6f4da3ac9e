use Rattle.std.proofs.Common.{◌≡◌, ◌+◌, ◌<◌, ◌^◌, None, length}
use Rattle.ppdb_queries.specs.Hoisted.{slots_from}
use Rattle.ppdb_queries.proofs.hoisted.RecordSlots.next.Given as goal

abbrev pub invariant-slots : goal.invariant-slots
invariant-slots l = record {
  whole : l.self-inside.slots.fault ≡ None;
  small : l.self-inside.slot + length l.self-inside.slots.items < 2 ^ 32;
  same : slots_from l.self-inside.offset l.self-inside.row l.self-inside.slot l.self-inside.slots.items ≡ l.fn.self;
}

abbrev pub decreases-slots : goal.decreases-slots
decreases-slots l = length l.self-inside.slots.items
