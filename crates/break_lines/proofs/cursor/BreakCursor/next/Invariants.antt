use Rattle.std.proofs.Common.{◌≡◌, ◌+◌, ◌-◌, ◌≤◌, length}
use Rattle.ppdb_tables.specs.RawOf.{raw_of}
use Rattle.ppdb_verify.specs.Views.{tables_of}
use Rattle.break_lines.specs.Walks.{breaks_left}
use Rattle.break_lines.proofs.cursor.BreakCursor.next.Given as goal

abbrev pub invariant-methods : goal.invariant-methods
invariant-methods g l =
    let s = l.self-inside in
    let raw = raw_of (tables_of s.file) in
    record {
      within : s.done ≤ length raw.methods;
      same : (breaks_left raw s.document s.line s.current s.done).items ≡ l.fn.self.items;
      cost : l.steps + (length raw.methods - s.done) ≡ l.fn.steps + l.fn.self.rows;
      later : l.fn.steps ≤ l.steps;
    }

abbrev pub decreases-methods : goal.decreases-methods
decreases-methods g l = length (raw_of (tables_of l.self-inside.file)).methods - l.self-inside.done
