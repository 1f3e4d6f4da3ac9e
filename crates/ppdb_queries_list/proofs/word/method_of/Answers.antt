use Rattle.std.proofs.{Common.{◌≡◌, get_or, arith}, lemmas.Grind.{common_steps}}
use Rattle.ppdb_queries_list.proofs.Prefixed.{from, token_word, token_read}
use Rattle.ppdb_queries_list.proofs.word.method_of.Goals as goal

pub returns-in-48 : goal.returns-in-48
returns-in-48 c =
    let word = c.args.word.now in
    let a : get_or word 0 0 ≡ 48 = grind (arith, common_steps) in
    let b : get_or word 1 0 ≡ 120 = grind (arith, common_steps) in
    let d : get_or word 2 0 ≡ 48 = grind (arith, common_steps) in
    let e : get_or word 3 0 ≡ 54 = grind (arith, common_steps) in
    token_read c.hexadecimal.result word (from 4 word) (token_word word c.in-48.len_at_least a b d e) c.if-digits-eq6.true c.hexadecimal.ensures.some
    c.hexadecimal.ensures.none
