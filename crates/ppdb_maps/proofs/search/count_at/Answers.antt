use Rattle.std.{proofs.Common.{rules}, specs.Prelude.{nat_eq, nat_lt}, proofs.lemmas.Fn.{always_returns_same}}
use Rattle.ppdb_maps.{proofs.Halving.{by_number}, specs.declared.entries.Count.{Count}}
use Rattle.ppdb_maps.proofs.search.count_at.Goals as goal

pub returns : goal.returns
returns c = c.find_by.ensures (λ (x : Count). nat_lt x.table c.args.table) (λ (x : Count). nat_eq x.table c.args.table)
    (always_returns_same _ _ _ (λ a r f k. search rules)) (always_returns_same _ _ _ (λ a r f k. search rules))
    (by_number (λ (x : Count). x.table) c.args.table c.args.counts.now c.requires)
