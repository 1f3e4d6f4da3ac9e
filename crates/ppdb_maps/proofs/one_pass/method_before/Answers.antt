use Rattle.std.proofs.{Common.{◌≡◌, get_or, arith}, lemmas.Grind.{common_steps}}
use Rattle.ppdb_maps.proofs.OnePass.{after, method_word, method_there}
use Rattle.ppdb_maps.proofs.one_pass.method_before.Goals as goal

pub returns-then-new_size-most : goal.returns-then-new_size-most
returns-then-new_size-most c =
    let text = c.args.text.now in
    let a : get_or text 0 0 ≡ 109 = grind (arith, common_steps) in
    let b : get_or text 1 0 ≡ 101 = grind (arith, common_steps) in
    let d : get_or text 2 0 ≡ 116 = grind (arith, common_steps) in
    let e : get_or text 3 0 ≡ 104 = grind (arith, common_steps) in
    let f : get_or text 4 0 ≡ 111 = grind (arith, common_steps) in
    let g : get_or text 5 0 ≡ 100 = grind (arith, common_steps) in
    let h : get_or text 6 0 ≡ 32 = grind (arith, common_steps) in
    method_there text (after 7 text) c.in_ok-method.values.now c.in_ok-old_size.values.now c.in_ok-new_size.rest.now _ _ _
    (method_word text c.in-109.len_at_least a b d e f g h) c.in_ok-method.ensures c.in_ok-old_size.ensures c.in_ok-new_size.ensures
    c.if-method-ge1.true c.if-method-le-MAX_ROWS.true c.if-old_size-most.true c.if-new_size-most.true
