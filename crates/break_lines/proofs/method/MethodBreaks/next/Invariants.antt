use Rattle.std.proofs.Common.{◌≡◌, None, length}
use Rattle.break_lines.specs.Walks.{breaks_of}
use Rattle.break_lines.proofs.method.MethodBreaks.next.Given as goal

abbrev pub invariant-points : goal.invariant-points
invariant-points l = record {
  whole : l.self-inside.points.left.fault ≡ None;
  same : breaks_of l.self-inside.document l.self-inside.line l.self-inside.method l.self-inside.points.left.items ≡ l.fn.self;
}

abbrev pub decreases-points : goal.decreases-points
decreases-points l = length l.self-inside.points.left.items
