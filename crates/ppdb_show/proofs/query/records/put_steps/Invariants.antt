use Rattle.std.{proofs.Common.{◌≡◌, [], ◌∷◌, length}, specs.Prelude.{None}}
use Rattle.ppdb_show.specs.{Query.{step_line}, QueryWalk.{Walked}}
use Rattle.ppdb_show.proofs.query.records.put_steps.Given as goal

abbrev pub invariant-steps : goal.invariant-steps
invariant-steps l = record {
  whole : l.cursor.left.fault ≡ None;
  walk : Walked l.printer.form (λ step. step_line step ∷ []) (λ step. 0) l.fn.cursor.left.items l.cursor.left.items l.fn.text l.text 0 0;
}

abbrev pub decreases-steps : goal.decreases-steps
decreases-steps l = length l.cursor.left.items
