use Rattle.std.{proofs.Common.{ℕ, ◌↔◌, ◌≢◌, IsTrue, map, ap, ◌∙◌}, specs.Prelude.{AllPairs}, specs.Ordering.{nat_cmp}, proofs.lemmas.List.{take_all, map-id}}
use Rattle.std.proofs.lemmas.Result.{IfOk-weaker}
use Rattle.ppdb_values_check.{proofs.Keys.{names_by_keys, number_decides}, proofs.Listed.{answers}, specs.Pairs.{AreApart}}
use Rattle.ppdb_values_check.proofs.differ.numbers_differ.Goals as goal

pub returns : goal.returns
returns g c =
    let all = take_all c.loop-item.item-index c.args.items.now c.loop-item-test.false in
    IfOk-weaker c.keys_differ.result (λ differ. IsTrue differ ↔ AllPairs (AreApart nat_cmp) c.as_slice.result.now)
    (λ differ. IsTrue differ ↔ AllPairs (λ a b. g.T.Numbered.number_of a ≢ g.T.Numbered.number_of b) c.args.items.now)
    (λ differ decides. answers decides (names_by_keys nat_cmp (λ (n : ℕ). n) g.T.Numbered.number_of
    c.as_slice.result.now c.args.items.now
    (map-id c.as_slice.result.now ∙ (c.as_slice.ensures.value ∙ (c.loop-item.invariant ∙ ap (λ items. map g.T.Numbered.number_of items) all)))
    (λ a b. number_decides a b)))
    c.keys_differ.ensures
