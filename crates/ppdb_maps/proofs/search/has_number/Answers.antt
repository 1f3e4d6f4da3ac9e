use Rattle.std.{proofs.Common.{rules, ◌∙◌, sym, ap}, specs.Prelude.{nat_eq, nat_lt, is_some}, proofs.lemmas.Fn.{always_returns_same}}
use Rattle.ppdb_maps.proofs.Halving.{by_itself, any_found, some_lent}
use Rattle.ppdb_maps.proofs.search.has_number.Goals as goal

pub returns : goal.returns
returns c =
    c.is_some.ensures ∙ (sym (some_lent c.find_by.result) ∙ (ap is_some (c.find_by.ensures (λ x. nat_lt x c.args.number) (λ x. nat_eq x c.args.number)
    (always_returns_same _ _ _ (λ a r f k. search rules)) (always_returns_same _ _ _ (λ a r f k. search rules))
    (by_itself c.args.number c.args.numbers.now c.requires)) ∙ any_found c.args.number c.args.numbers.now))
