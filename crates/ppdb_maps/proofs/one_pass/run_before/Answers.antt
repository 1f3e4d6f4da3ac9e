use Rattle.std.proofs.{Common.{◌≡◌, get_or, arith}, lemmas.Grind.{common_steps}}
use Rattle.ppdb_maps.proofs.OnePass.{after, run_word, run_there}
use Rattle.ppdb_maps.proofs.one_pass.run_before.Goals as goal

pub returns-then-length-most : goal.returns-then-length-most
returns-then-length-most c =
    let text = c.args.text.now in
    let a : get_or text 0 0 ≡ 114 = grind (arith, common_steps) in
    let b : get_or text 1 0 ≡ 117 = grind (arith, common_steps) in
    let d : get_or text 2 0 ≡ 110 = grind (arith, common_steps) in
    let e : get_or text 3 0 ≡ 32 = grind (arith, common_steps) in
    run_there text (after 4 text) c.in_ok-old.values.now c.in_ok-new.values.now c.in_ok-length.rest.now _ (run_word text c.in-114.len_at_least a b d e)
    c.in_ok-old.ensures c.in_ok-new.ensures c.in_ok-length.ensures c.if-old-most.true c.if-new-most.true c.if-length-ge1.true c.if-length-most.true
