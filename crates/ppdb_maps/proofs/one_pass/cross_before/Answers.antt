use Rattle.std.proofs.{Common.{◌≡◌, get_or, take, drop, arith}, lemmas.Grind.{common_steps}}
use Rattle.ppdb_maps.proofs.OnePass.{after, row_word, table_word, cross_there}
use Rattle.ppdb_maps.proofs.one_pass.cross_before.Goals as goal

pub returns-then-crosses : goal.returns-then-crosses
returns-then-crosses c =
    let text = c.args.text.now in
    let values = c.in_ok-old.values.now in
    let a : get_or text 0 0 ≡ 114 = grind (arith, common_steps) in
    let b : get_or text 1 0 ≡ 111 = grind (arith, common_steps) in
    let d : get_or text 2 0 ≡ 119 = grind (arith, common_steps) in
    let e : get_or text 3 0 ≡ 32 = grind (arith, common_steps) in
    let g : get_or text 6 0 ≡ 32 = grind (arith, common_steps) in
    let h : get_or values 2 0 ≡ 32 = grind (arith, common_steps) in
    cross_there text (take 2 (drop 4 text)) (after 7 text) values (take 2 values) (after 3 values) c.in_ok-new.rest.now _
    (row_word text c.in-114.len_at_least a b d e g) c.in_ok-table_old.ensures.some c.in_ok-old.ensures
    (table_word values c.in-32.len_at_least h) c.in_ok-to.ensures.some c.in_ok-new.ensures
    c.if-old-ge1.true c.if-old-most.true c.if-new-ge1.true c.if-new-most.true (c.crosses.ensures.0 c.if-crosses.true)
