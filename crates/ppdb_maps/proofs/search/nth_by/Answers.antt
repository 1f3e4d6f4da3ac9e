use Rattle.std.{proofs.Common.{◌≡◌, ◌≤◌, ◌+◌, ◌∷◌, [], true, false, Option, Bor, length, sym, ap, ◌∙◌, refl, arith}, specs.Option.{option_copied}}
use Rattle.std.proofs.lemmas.Grind.{common_steps}
use Rattle.ppdb_maps.proofs.Halving.{nth_lent, nth_past, if_passes}
use Rattle.ppdb_maps.proofs.search.nth_by.Goals as goal

pub returns-then-index-items : goal.returns-then-index-items
returns-then-index-items g c = λ is_before is_at computes computes_at grouped.
    let point = c.partition_point-first.ensures.partitioned is_before computes in
    let past : length c.args.items.now ≤ c.partition_point-first.result + c.args.index = grind (arith, common_steps) in
    sym (nth_past is_before is_at c.args.items.now c.partition_point-first.result c.args.index past grouped point)

pub returns-in_err-item : goal.returns-in_err-item
returns-in_err-item g c = λ is_before is_at computes computes_at grouped.
    let point = c.partition_point-first.ensures.partitioned is_before computes in
    let found = nth_lent is_before is_at c.args.items.now c.partition_point-first.result c.args.index _ c.get.result refl c.get.ensures.lookup grouped point in
    rw c.from_residual.ensures (sym (found ∙ ap (λ (r : Option (Bor g.row.T.Denot)). if_passes is_at (option_copied r)) c.in_err-item.was))

pub returns-then-at : goal.returns-then-at
returns-then-at g c = λ is_before is_at computes computes_at grouped.
    let point = c.partition_point-first.ensures.partitioned is_before computes in
    let found = nth_lent is_before is_at c.args.items.now c.partition_point-first.result c.args.index _ c.get.result refl c.get.ensures.lookup grouped point in
    let here = (computes_at.at ((c.in_ok-item.item, tt) ∷ []) c.at.result c.at.new.self c.at.ensures).0 in
    let is : is_at c.in_ok-item.item.now ≡ true = sym here ∙ c.if-at.true in
    sym (found ∙ (ap (λ (r : Option (Bor g.row.T.Denot)). if_passes is_at (option_copied r)) c.in_ok-item.was ∙ (rw is refl)))

pub returns : goal.returns
returns g c = λ is_before is_at computes computes_at grouped.
    let point = c.partition_point-first.ensures.partitioned is_before computes in
    let found = nth_lent is_before is_at c.args.items.now c.partition_point-first.result c.args.index _ c.get.result refl c.get.ensures.lookup grouped point in
    let here = (computes_at.at ((c.in_ok-item.item, tt) ∷ []) c.at.result c.at.new.self c.at.ensures).0 in
    let is : is_at c.in_ok-item.item.now ≡ false = sym here ∙ c.if-at.false in
    sym (found ∙ (ap (λ (r : Option (Bor g.row.T.Denot)). if_passes is_at (option_copied r)) c.in_ok-item.was ∙ (rw is refl)))
