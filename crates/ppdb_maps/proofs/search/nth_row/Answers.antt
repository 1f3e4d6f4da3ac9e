use Rattle.std.{proofs.Common.{rules}, specs.Prelude.{nat_eq, nat_lt}, proofs.lemmas.Fn.{always_returns_same}}
use Rattle.ppdb_maps.{proofs.Halving.{by_first}, specs.declared.entries.RowLine.{RowLine}}
use Rattle.ppdb_maps.proofs.search.nth_row.Goals as goal

pub returns : goal.returns
returns c = c.nth_by.ensures (λ (x : RowLine). nat_lt x.table c.args.table) (λ (x : RowLine). nat_eq x.table c.args.table)
    (always_returns_same _ _ _ (λ a r f k. search rules)) (always_returns_same _ _ _ (λ a r f k. search rules))
    (by_first (λ (x : RowLine). x.table) (λ (x : RowLine). x.old) c.args.table c.args.rows.now c.requires)
