use Rattle.std.proofs.{Common.{◌≡◌, get_or, take, drop, arith}, lemmas.Grind.{common_steps}}
use Rattle.ppdb_maps.proofs.OnePass.{after, gone_word, gone_there}
use Rattle.ppdb_maps.proofs.one_pass.gone_before.Goals as goal

pub returns-then-old-le-MAX_ROWS : goal.returns-then-old-le-MAX_ROWS
returns-then-old-le-MAX_ROWS c =
    let text = c.args.text.now in
    let a : get_or text 0 0 ≡ 103 = grind (arith, common_steps) in
    let b : get_or text 1 0 ≡ 111 = grind (arith, common_steps) in
    let d : get_or text 2 0 ≡ 110 = grind (arith, common_steps) in
    let e : get_or text 3 0 ≡ 101 = grind (arith, common_steps) in
    let f : get_or text 4 0 ≡ 32 = grind (arith, common_steps) in
    let g : get_or text 7 0 ≡ 32 = grind (arith, common_steps) in
    gone_there text (take 2 (drop 5 text)) (after 8 text) c.in_ok-old.rest.now _ _ (gone_word text c.in-103.len_at_least a b d e f g)
    c.in_ok-table.ensures.some c.if-table-ne6.true c.in_ok-old.ensures c.if-old-ge1.true c.if-old-le-MAX_ROWS.true
