use Rattle.source_link.proofs.Narrowed.{Narrowed}
use Rattle.source_link.proofs.search.best.Given as goal

abbrev pub invariant-loop-at : goal.invariant-loop-at
invariant-loop-at l = Narrowed l.pairs l.name l.at l.part l.found
