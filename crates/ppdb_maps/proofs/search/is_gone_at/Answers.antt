use Rattle.std.{proofs.Common.{rules, ◌&&◌, ◌||◌, ◌∙◌, sym, ap}, specs.Prelude.{nat_eq, nat_lt, is_some}, proofs.lemmas.Fn.{always_returns_same}}
use Rattle.ppdb_maps.{proofs.Halving.{by_pair, some_lent}, proofs.OneList.{any_is}, specs.declared.entries.GoneLine.{GoneLine}}
use Rattle.ppdb_maps.proofs.search.is_gone_at.Goals as goal

pub returns : goal.returns
returns c =
    c.is_some.ensures ∙ (sym (some_lent c.find_by.result)
    ∙ (ap is_some (c.find_by.ensures (λ (x : GoneLine). nat_lt x.table c.args.table || (nat_eq x.table c.args.table && nat_lt x.old c.args.old))
    (λ (x : GoneLine). nat_eq x.table c.args.table && nat_eq x.old c.args.old)
    (always_returns_same _ _ _ (λ a r f k. search rules)) (always_returns_same _ _ _ (λ a r f k. search rules))
    (by_pair (λ (x : GoneLine). x.table) (λ (x : GoneLine). x.old) c.args.table c.args.old c.args.lines.now c.requires))
    ∙ sym (any_is (λ (x : GoneLine). nat_eq x.table c.args.table && nat_eq x.old c.args.old) c.args.lines.now)))
