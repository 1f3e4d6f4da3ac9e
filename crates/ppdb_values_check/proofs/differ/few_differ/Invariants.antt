use Rattle.ppdb_values_check.specs.Pairs.{AreApart, PrefixStands, PairsBelow}
use Rattle.ppdb_values_check.proofs.differ.few_differ.Given as goal

abbrev pub invariant-loop-j : goal.invariant-loop-j
invariant-loop-j g l = PrefixStands (AreApart g.K.Ord.cmp) l.keys l.i l.j

abbrev pub invariant-loop-i : goal.invariant-loop-i
invariant-loop-i g l = PairsBelow (AreApart g.K.Ord.cmp) l.keys l.i
