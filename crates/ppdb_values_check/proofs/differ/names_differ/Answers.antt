use Rattle.std.{proofs.Common.{ℕ, ◌↔◌, ◌≢◌, IsTrue, List, map, ap, ◌∙◌}, specs.Prelude.{AllPairs}, specs.Borrow.{Bor}, specs.Cmp.Lexicographic.{slice_cmp}}
use Rattle.std.{specs.Ordering.{nat_cmp}, proofs.lemmas.List.{take_all}, proofs.lemmas.Result.{IfOk-weaker}}
use Rattle.ppdb_values_check.{proofs.Keys.{names_by_keys, text_decides}, proofs.Listed.{answers}, specs.Pairs.{AreApart}}
use Rattle.ppdb_values_check.proofs.differ.names_differ.Goals as goal

pub returns : goal.returns
returns g c =
    let all = take_all c.loop-item.item-index c.args.items.now c.loop-item-test.false in
    IfOk-weaker c.keys_differ.result (λ differ. IsTrue differ ↔ AllPairs (AreApart (λ (a : Bor (List ℕ)) (b : Bor (List ℕ)). slice_cmp nat_cmp a.now b.now))
    c.as_slice.result.now)
    (λ differ. IsTrue differ ↔ AllPairs (λ a b. g.T.Named.name_of a ≢ g.T.Named.name_of b) c.args.items.now)
    (λ differ decides. answers decides (names_by_keys (λ (a : Bor (List ℕ)) (b : Bor (List ℕ)). slice_cmp nat_cmp a.now b.now)
    (λ name. name.now) g.T.Named.name_of
    c.as_slice.result.now c.args.items.now
    (ap (λ names. map (λ name. name.now) names) c.as_slice.ensures.value ∙ (c.loop-item.invariant ∙ ap (λ items. map g.T.Named.name_of items) all))
    (λ a b. text_decides a.now b.now)))
    c.keys_differ.ensures
