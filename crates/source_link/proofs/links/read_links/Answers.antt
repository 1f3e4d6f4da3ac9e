use Rattle.std.proofs.{Common.{◌∙◌, ap, sym, is_lt, rules, Ok}, lemmas.Fn.{always_returns_same}, lemmas.List.Sorted.{ranks_by}}
use Rattle.source_link.{specs.declared.pair.Pair.{Pair}, specs.Search.{place_cmp}, proofs.Places.{place_total}}
use Rattle.source_link.proofs.links.read_links.Goals as goal

pub invariant_of-result : goal.invariant_of-result
invariant_of-result c = (
  c.sort_unstable_by.ensures.sorted (λ (x y : Pair). is_lt (place_cmp x.key y.key)) (ranks_by place_total (λ (p : Pair). p.key))
      (always_returns_same _ _ _ (λ a r f k. search rules)),
  c.order_is_free.ensures.differ c.args.bytes.now c.sort_unstable_by.new.self.items (record {
    pairs = c.into_vec-pairs.result.items;
    said = c.in_ok-pairs_said_by.ensures.pairs ∙ ap Ok (sym c.into_vec-pairs.ensures);
    moved = c.sort_unstable_by.ensures.permutation;
  }),
)
