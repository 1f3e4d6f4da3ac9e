use Rattle.std.{proofs.Common.{◌≡◌, ◌∷◌, [], true, false, Option, Bor, sym, ap, ◌∙◌, refl}, specs.Option.{option_copied}}
use Rattle.ppdb_maps.proofs.Halving.{found_lent, if_passes}
use Rattle.ppdb_maps.proofs.search.find_by.Goals as goal

pub returns-in_err-item : goal.returns-in_err-item
returns-in_err-item g c = λ is_before is_at computes computes_at parted.
    let point = c.partition_point-place.ensures.partitioned is_before computes in
    let found = found_lent is_before is_at c.args.items.now c.partition_point-place.result c.get.result c.get.ensures.lookup parted point in
    rw c.from_residual.ensures (sym (found ∙ ap (λ (r : Option (Bor g.row.T.Denot)). if_passes is_at (option_copied r)) c.in_err-item.was))

pub returns-then-at : goal.returns-then-at
returns-then-at g c = λ is_before is_at computes computes_at parted.
    let point = c.partition_point-place.ensures.partitioned is_before computes in
    let found = found_lent is_before is_at c.args.items.now c.partition_point-place.result c.get.result c.get.ensures.lookup parted point in
    let here = (computes_at.at ((c.in_ok-item.item, tt) ∷ []) c.at.result c.at.new.self c.at.ensures).0 in
    let is : is_at c.in_ok-item.item.now ≡ true = sym here ∙ c.if-at.true in
    sym (found ∙ (ap (λ (r : Option (Bor g.row.T.Denot)). if_passes is_at (option_copied r)) c.in_ok-item.was ∙ (rw is refl)))

pub returns : goal.returns
returns g c = λ is_before is_at computes computes_at parted.
    let point = c.partition_point-place.ensures.partitioned is_before computes in
    let found = found_lent is_before is_at c.args.items.now c.partition_point-place.result c.get.result c.get.ensures.lookup parted point in
    let here = (computes_at.at ((c.in_ok-item.item, tt) ∷ []) c.at.result c.at.new.self c.at.ensures).0 in
    let is : is_at c.in_ok-item.item.now ≡ false = sym here ∙ c.if-at.false in
    sym (found ∙ (ap (λ (r : Option (Bor g.row.T.Denot)). if_passes is_at (option_copied r)) c.in_ok-item.was ∙ (rw is refl)))
