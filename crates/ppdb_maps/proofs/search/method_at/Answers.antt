use Rattle.std.{proofs.Common.{rules}, specs.Prelude.{nat_eq, nat_lt}, proofs.lemmas.Fn.{always_returns_same}}
use Rattle.ppdb_maps.{proofs.Halving.{by_number}, specs.Map.{MethodLine}}
use Rattle.ppdb_maps.proofs.search.method_at.Goals as goal

pub returns : goal.returns
returns c = c.find_by.ensures (λ (x : MethodLine). nat_lt x.method c.args.method) (λ (x : MethodLine). nat_eq x.method c.args.method)
    (always_returns_same _ _ _ (λ a r f k. search rules)) (always_returns_same _ _ _ (λ a r f k. search rules))
    (by_number (λ (x : MethodLine). x.method) c.args.method c.args.methods.now c.requires)
