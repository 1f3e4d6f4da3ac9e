use Rattle.std.proofs.{Common.{take, drop, ◌≡◌, get_or, arith}, lemmas.Grind.{common_steps}}
use Rattle.ppdb_maps.proofs.OnePass.{after, row_word, row_there}
use Rattle.ppdb_maps.proofs.one_pass.row_before.Goals as goal

pub returns-then-new-most : goal.returns-then-new-most
returns-then-new-most c =
    let text = c.args.text.now in
    let a : get_or text 0 0 ≡ 114 = grind (arith, common_steps) in
    let b : get_or text 1 0 ≡ 111 = grind (arith, common_steps) in
    let d : get_or text 2 0 ≡ 119 = grind (arith, common_steps) in
    let e : get_or text 3 0 ≡ 32 = grind (arith, common_steps) in
    let g : get_or text 6 0 ≡ 32 = grind (arith, common_steps) in
    row_there text (take 2 (drop 4 text)) (after 7 text) c.in_ok-old.values.now c.in_ok-new.rest.now _ _ _ (row_word text c.in-114.len_at_least a b d e g)
    c.in_ok-table.ensures.some c.in_ok-old.ensures c.in_ok-new.ensures c.if-old-ge1.true c.if-old-most.true c.if-new-ge1.true c.if-new-most.true
