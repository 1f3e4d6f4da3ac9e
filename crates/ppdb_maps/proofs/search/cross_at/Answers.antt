use Rattle.std.{proofs.Common.{rules, ◌&&◌, ◌||◌}, specs.Prelude.{nat_eq, nat_lt}, proofs.lemmas.Fn.{always_returns_same}}
use Rattle.ppdb_maps.{proofs.Halving.{by_pair}, specs.declared.entries.CrossLine.{CrossLine}}
use Rattle.ppdb_maps.proofs.search.cross_at.Goals as goal

pub returns : goal.returns
returns c = c.find_by.ensures (λ (x : CrossLine). nat_lt x.table c.args.table || (nat_eq x.table c.args.table && nat_lt x.old c.args.old))
    (λ (x : CrossLine). nat_eq x.table c.args.table && nat_eq x.old c.args.old)
    (always_returns_same _ _ _ (λ a r f k. search rules)) (always_returns_same _ _ _ (λ a r f k. search rules))
    (by_pair (λ (x : CrossLine). x.table) (λ (x : CrossLine). x.old) c.args.table c.args.old c.args.lines.now c.requires)
