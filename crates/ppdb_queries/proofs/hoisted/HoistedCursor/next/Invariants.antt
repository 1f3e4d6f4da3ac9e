use Rattle.std.proofs.Common.{◌≡◌, ◌+◌, ◌-◌, ◌≤◌, length}
use Rattle.ppdb_tables.specs.RawOf.{raw_of}
use Rattle.ppdb_verify.specs.Views.{tables_of}
use Rattle.ppdb_queries.specs.Hoisted.{hoisted_left}
use Rattle.ppdb_queries.proofs.hoisted.HoistedCursor.next.Given as goal

abbrev pub invariant-records : goal.invariant-records
invariant-records g l =
    let s = l.self-inside in
    let raw = raw_of (tables_of s.file) in
    record {
      from : 1 ≤ s.first;
      forward : s.first ≤ s.end;
      last : s.end ≤ length raw.customs + 1;
      same : (hoisted_left raw s.offset s.current s.first s.end).items ≡ l.fn.self.items;
      cost : l.steps + (s.end - s.first) ≡ l.fn.steps + l.fn.self.rows;
    }

abbrev pub decreases-records : goal.decreases-records
decreases-records g l = l.self-inside.end - l.self-inside.first
