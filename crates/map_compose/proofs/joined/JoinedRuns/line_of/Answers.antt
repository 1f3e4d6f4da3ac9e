use Rattle.std.{proofs.Common.{rules, sym, ap, subst, cond, ◌∙◌, ◌≡◌, true, false, None, Some, Option, Bor}, specs.Prelude.{nat_eq, nat_lt}}
use Rattle.std.{specs.List.Sorted.{IsPartitionedBy, IsPartitionPoint}, specs.Option.{option_copied}, specs.Slice.{IsItemAt}, proofs.lemmas.Bool.{eq-eqb, ne_eqb}}
use Rattle.std.proofs.lemmas.Fn.{always_returns_same}
use Rattle.ppdb_maps.proofs.Halving.{if_passes}
use Rattle.map_compose.{specs.declared.joined.JoinedLine.{JoinedLine}, proofs.Places.{lent_place}}
use Rattle.map_compose.proofs.joined.JoinedRuns.line_of.Goals as goal

pub returns-in_err-line : goal.returns-in_err-line
returns-in_err-line c = λ m readable are.
    let point = subst (λ xs. IsPartitionedBy (λ (j : JoinedLine). nat_lt j.method c.args.method) xs
    → IsPartitionPoint (λ (j : JoinedLine). nat_lt j.method c.args.method ≡ true)
    (λ (j : JoinedLine). nat_lt j.method c.args.method ≡ false) xs c.partition_point-at.result)
    c.deref.ensures.value
    (c.partition_point-at.ensures.partitioned (λ (j : JoinedLine). nat_lt j.method c.args.method) (always_returns_same _ _ _ (λ a r f k. search rules))) in
    let item : IsItemAt c.args.self.now.lines.items c.partition_point-at.result c.get.result =
    subst (λ xs. IsItemAt xs c.partition_point-at.result c.get.result) c.deref-2.ensures.value c.get.ensures.lookup in
    let found = lent_place c.args.self.now m c.args.method c.partition_point-at.result c.get.result readable are item point in
    c.from_residual.ensures
    ∙ sym (found ∙ ap (λ (r : Option (Bor JoinedLine)). if_passes (λ (j : JoinedLine). nat_eq j.method c.args.method) (option_copied r)) c.in_err-line.was)

pub returns-then-line-method : goal.returns-then-line-method
returns-then-line-method c = λ m readable are.
    let point = subst (λ xs. IsPartitionedBy (λ (j : JoinedLine). nat_lt j.method c.args.method) xs
    → IsPartitionPoint (λ (j : JoinedLine). nat_lt j.method c.args.method ≡ true)
    (λ (j : JoinedLine). nat_lt j.method c.args.method ≡ false) xs c.partition_point-at.result)
    c.deref.ensures.value
    (c.partition_point-at.ensures.partitioned (λ (j : JoinedLine). nat_lt j.method c.args.method) (always_returns_same _ _ _ (λ a r f k. search rules))) in
    let item : IsItemAt c.args.self.now.lines.items c.partition_point-at.result c.get.result =
    subst (λ xs. IsItemAt xs c.partition_point-at.result c.get.result) c.deref-2.ensures.value c.get.ensures.lookup in
    let found = lent_place c.args.self.now m c.args.method c.partition_point-at.result c.get.result readable are item point in
    sym (found ∙ ap (λ (r : Option (Bor JoinedLine)). if_passes (λ (j : JoinedLine). nat_eq j.method c.args.method) (option_copied r)) c.in_ok-line.was
    ∙ ap (λ b. cond b (Some c.in_ok-line.line.now) None) (eq-eqb c.in_ok-line.line.now.method c.args.method c.if-line-method.true))

pub returns-else-line-method : goal.returns-else-line-method
returns-else-line-method c = λ m readable are.
    let point = subst (λ xs. IsPartitionedBy (λ (j : JoinedLine). nat_lt j.method c.args.method) xs
    → IsPartitionPoint (λ (j : JoinedLine). nat_lt j.method c.args.method ≡ true)
    (λ (j : JoinedLine). nat_lt j.method c.args.method ≡ false) xs c.partition_point-at.result)
    c.deref.ensures.value
    (c.partition_point-at.ensures.partitioned (λ (j : JoinedLine). nat_lt j.method c.args.method) (always_returns_same _ _ _ (λ a r f k. search rules))) in
    let item : IsItemAt c.args.self.now.lines.items c.partition_point-at.result c.get.result =
    subst (λ xs. IsItemAt xs c.partition_point-at.result c.get.result) c.deref-2.ensures.value c.get.ensures.lookup in
    let found = lent_place c.args.self.now m c.args.method c.partition_point-at.result c.get.result readable are item point in
    sym (found ∙ ap (λ (r : Option (Bor JoinedLine)). if_passes (λ (j : JoinedLine). nat_eq j.method c.args.method) (option_copied r)) c.in_ok-line.was
    ∙ ap (λ b. cond b (Some c.in_ok-line.line.now) None) (ne_eqb c.in_ok-line.line.now.method c.args.method c.if-line-method.false))
