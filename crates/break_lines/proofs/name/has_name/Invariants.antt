use Rattle.std.{proofs.Common.{◌≡◌, None, length}, specs.Str.{bytes_eq}}
use Rattle.break_lines.specs.Laws.{joined, parts_after}
use Rattle.break_lines.proofs.name.has_name.Given as goal

abbrev pub invariant-parts : goal.invariant-parts
invariant-parts l = record {
  whole : l.name.left.fault ≡ None;
  same : bytes_eq (parts_after l.before l.name.separator l.name.left.items) l.rest ≡ bytes_eq (joined l.fn.name.separator l.fn.name.left.items) l.fn.text;
}

abbrev pub decreases-parts : goal.decreases-parts
decreases-parts l = length l.name.left.items
