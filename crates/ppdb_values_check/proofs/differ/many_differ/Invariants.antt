use Rattle.std.{proofs.Common.{◌≡◌, take}, specs.BTreeSet.{contains}, specs.List.{list_any}, specs.Ordering.{is_eq}}
use Rattle.ppdb_values_check.specs.Pairs.{AreApart, PairsBelow}
use Rattle.ppdb_values_check.proofs.differ.many_differ.Given as goal

abbrev pub invariant-loop-i : goal.invariant-loop-i
invariant-loop-i g l = record {
  apart : PairsBelow (AreApart g.K.Ord.cmp) l.keys l.i;
  seen : (key : g.row.K.Denot) → contains g.K.Ord.cmp l.seen key ≡ list_any (λ k. is_eq (g.K.Ord.cmp k key)) (take l.i l.keys);
}
