-- A name has one address, however the pairs stand.
use Rattle.std.{proofs.Common.{◌≡◌, ℕ, ◌∙◌, List, refl, sym, ap, Option, Some, None, true}, specs.Prelude.{Contains}, specs.List.Sorted.{IsPermutation}}
use Rattle.std.{specs.Option.{option_map}, proofs.lemmas.List.Sorted.{Contains-permutation, IsPermutation-sym}}
use Rattle.source_link.specs.{declared.pair.Pair.{Pair}, Address.{matches, chosen, filled, address_of}, Laws.{IsBest, KeysDiffer, OrderIsFree}}
use Rattle.source_link.proofs.{Ascends.{links_ascend, ascending_differ, moved_differ}, Best.{choice_is_best}}

best_moved : (name : List ℕ) (pairs links : List Pair) (pair : Pair) → IsPermutation pairs links → IsBest name pairs pair → IsBest name links pair
best_moved name pairs links pair moved best = record {
  there = Contains-permutation pairs links pair moved best.there;
  matching = best.matching;
  first = λ other there matching. best.first other (Contains-permutation links pairs other (IsPermutation-sym pairs links moved) there) matching;
}

chosen_moved : (name : List ℕ) (pairs links : List Pair) → KeysDiffer pairs → IsPermutation pairs links → chosen name links ≡ chosen name pairs
chosen_moved name pairs links differ moved = step (chosen name pairs) (chosen name links) refl refl
  where
    step : (a b : Option Pair) → chosen name pairs ≡ a → chosen name links ≡ b → b ≡ a
    step (Some pair) b is other =
        sym other ∙ choice_is_best.chosen_is name links pair (moved_differ pairs links differ moved)
        (best_moved name pairs links pair moved (choice_is_best.best name pairs pair is))
    step None None is other = refl
    step None (Some pair) is other =
        let found = choice_is_best.chosen_is name pairs pair differ
        (best_moved name links pairs pair (IsPermutation-sym pairs links moved) (choice_is_best.best name links pair other)) in
        cc

pub order_is_free : OrderIsFree
order_is_free = record {
  ascend = links_ascend;
  differ = λ bytes links are. moved_differ are.pairs links (ascending_differ are.pairs (links_ascend bytes are.pairs are.said)) are.moved;
  same = λ bytes pairs links said are name.
      let one : are.pairs ≡ pairs = let e = are.said in cc (e, said) in
      ap (option_map (filled name)) (chosen_moved name are.pairs links (ascending_differ are.pairs (links_ascend bytes are.pairs are.said)) are.moved)
      ∙ ap (λ (ps : List Pair). address_of name ps) one;
}

-- ---- what a search found is the address

pub address_found : (name : List ℕ) (links : List Pair) (pair : Pair) → KeysDiffer links → IsBest name links pair
    → address_of name links ≡ Some (filled name pair)
address_found name links pair differ best = ap (option_map (filled name)) (choice_is_best.chosen_is name links pair differ best)

pub address_none : (name : List ℕ) (links : List Pair) → ((pair : Pair) → Contains links pair → matches name pair ≡ true → ⊥) → address_of name links ≡ None
address_none name links none = ap (option_map (filled name)) (step (chosen name links) refl)
  where
    step : (o : Option Pair) → chosen name links ≡ o → chosen name links ≡ None
    step None is = is
    step (Some pair) is = let best = choice_is_best.best name links pair is in absurd (none pair best.there best.matching)
