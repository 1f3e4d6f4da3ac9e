use Rattle.std.{proofs.Common.{rules, sym, ap, subst, cond, ◌∙◌, ◌≡◌, true, false, None, Some, Option, Bor}, specs.Prelude.{nat_eq, nat_lt}}
use Rattle.std.{specs.List.Sorted.{IsPartitionedBy, IsPartitionPoint}, specs.Option.{option_copied}, specs.Slice.{IsItemAt}, proofs.lemmas.Bool.{eq-eqb, ne_eqb}}
use Rattle.std.proofs.lemmas.Fn.{always_returns_same}
use Rattle.ppdb_maps.proofs.Halving.{if_passes}
use Rattle.map_compose.{specs.declared.slot_blocks.SlotBlock.{SlotBlock}, proofs.SlotLines.{lent_block}}
use Rattle.map_compose.proofs.slot_blocks.SlotBlocks.of_method.Goals as goal

pub returns-in_err-block : goal.returns-in_err-block
returns-in_err-block c = λ m readable are.
    let point = subst (λ xs. IsPartitionedBy (λ (b : SlotBlock). nat_lt b.method c.args.method) xs
    → IsPartitionPoint (λ (b : SlotBlock). nat_lt b.method c.args.method ≡ true)
    (λ (b : SlotBlock). nat_lt b.method c.args.method ≡ false) xs c.partition_point-at.result)
    c.deref.ensures.value
    (c.partition_point-at.ensures.partitioned (λ (b : SlotBlock). nat_lt b.method c.args.method) (always_returns_same _ _ _ (λ a r f k. search rules))) in
    let item : IsItemAt c.args.self.now.blocks.items c.partition_point-at.result c.get.result =
    subst (λ xs. IsItemAt xs c.partition_point-at.result c.get.result) c.deref-2.ensures.value c.get.ensures.lookup in
    let found = lent_block c.args.self.now m c.args.method c.partition_point-at.result c.get.result readable are item point in
    c.from_residual.ensures
    ∙ sym (found ∙ ap (λ (r : Option (Bor SlotBlock)). if_passes (λ (b : SlotBlock). nat_eq b.method c.args.method) (option_copied r)) c.in_err-block.was)

pub returns-then-block-method : goal.returns-then-block-method
returns-then-block-method c = λ m readable are.
    let point = subst (λ xs. IsPartitionedBy (λ (b : SlotBlock). nat_lt b.method c.args.method) xs
    → IsPartitionPoint (λ (b : SlotBlock). nat_lt b.method c.args.method ≡ true)
    (λ (b : SlotBlock). nat_lt b.method c.args.method ≡ false) xs c.partition_point-at.result)
    c.deref.ensures.value
    (c.partition_point-at.ensures.partitioned (λ (b : SlotBlock). nat_lt b.method c.args.method) (always_returns_same _ _ _ (λ a r f k. search rules))) in
    let item : IsItemAt c.args.self.now.blocks.items c.partition_point-at.result c.get.result =
    subst (λ xs. IsItemAt xs c.partition_point-at.result c.get.result) c.deref-2.ensures.value c.get.ensures.lookup in
    let found = lent_block c.args.self.now m c.args.method c.partition_point-at.result c.get.result readable are item point in
    sym (found ∙ ap (λ (r : Option (Bor SlotBlock)). if_passes (λ (b : SlotBlock). nat_eq b.method c.args.method) (option_copied r)) c.in_ok-block.was
    ∙ ap (λ b. cond b (Some c.in_ok-block.block.now) None) (eq-eqb c.in_ok-block.block.now.method c.args.method c.if-block-method.true))

pub returns-else-block-method : goal.returns-else-block-method
returns-else-block-method c = λ m readable are.
    let point = subst (λ xs. IsPartitionedBy (λ (b : SlotBlock). nat_lt b.method c.args.method) xs
    → IsPartitionPoint (λ (b : SlotBlock). nat_lt b.method c.args.method ≡ true)
    (λ (b : SlotBlock). nat_lt b.method c.args.method ≡ false) xs c.partition_point-at.result)
    c.deref.ensures.value
    (c.partition_point-at.ensures.partitioned (λ (b : SlotBlock). nat_lt b.method c.args.method) (always_returns_same _ _ _ (λ a r f k. search rules))) in
    let item : IsItemAt c.args.self.now.blocks.items c.partition_point-at.result c.get.result =
    subst (λ xs. IsItemAt xs c.partition_point-at.result c.get.result) c.deref-2.ensures.value c.get.ensures.lookup in
    let found = lent_block c.args.self.now m c.args.method c.partition_point-at.result c.get.result readable are item point in
    sym (found ∙ ap (λ (r : Option (Bor SlotBlock)). if_passes (λ (b : SlotBlock). nat_eq b.method c.args.method) (option_copied r)) c.in_ok-block.was
    ∙ ap (λ b. cond b (Some c.in_ok-block.block.now) None) (ne_eqb c.in_ok-block.block.now.method c.args.method c.if-block-method.false))
