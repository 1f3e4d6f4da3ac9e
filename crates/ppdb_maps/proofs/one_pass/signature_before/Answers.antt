use Rattle.std.proofs.{Common.{◌≡◌, get_or, arith}, lemmas.Grind.{common_steps}}
use Rattle.ppdb_maps.proofs.OnePass.{after, signature_word, signature_there}
use Rattle.ppdb_maps.proofs.one_pass.signature_before.Goals as goal

pub returns-then-new-most : goal.returns-then-new-most
returns-then-new-most c =
    let text = c.args.text.now in
    let a : get_or text 0 0 ≡ 115 = grind (arith, common_steps) in
    let b : get_or text 1 0 ≡ 105 = grind (arith, common_steps) in
    let d : get_or text 2 0 ≡ 103 = grind (arith, common_steps) in
    let e : get_or text 3 0 ≡ 110 = grind (arith, common_steps) in
    let f : get_or text 4 0 ≡ 97 = grind (arith, common_steps) in
    let g : get_or text 5 0 ≡ 116 = grind (arith, common_steps) in
    let h : get_or text 6 0 ≡ 117 = grind (arith, common_steps) in
    let i : get_or text 7 0 ≡ 114 = grind (arith, common_steps) in
    let j : get_or text 8 0 ≡ 101 = grind (arith, common_steps) in
    let k : get_or text 9 0 ≡ 32 = grind (arith, common_steps) in
    signature_there text (after 10 text) c.in_ok-method.values.now c.in_ok-new.rest.now _ _
    (signature_word text c.in-115.len_at_least a b d e f g h i j k) c.in_ok-method.ensures c.in_ok-new.ensures
    c.if-method-ge1.true c.if-method-most.true c.if-new-most.true
