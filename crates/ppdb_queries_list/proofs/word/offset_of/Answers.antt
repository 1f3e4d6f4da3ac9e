use Rattle.std.proofs.{Common.{◌≡◌, get_or, arith}, lemmas.Grind.{common_steps}}
use Rattle.ppdb_queries_list.proofs.Prefixed.{from, hexadecimal_word, no_offset, offset_above}
use Rattle.ppdb_queries_list.proofs.word.offset_of.Goals as goal

pub returns-in_err-value-in-48 : goal.returns-in_err-value-in-48
returns-in_err-value-in-48 c =
    let word = c.args.word.now in
    let a : get_or word 0 0 ≡ 48 = grind (arith, common_steps) in
    let b : get_or word 1 0 ≡ 120 = grind (arith, common_steps) in
    rw c.from_residual.ensures (no_offset word (from 2 word) (hexadecimal_word word c.in-48.len_at_least a b) c.in_err-value-in-48.ensures.none)

pub returns-else-value-le-MAX_OFFSET : goal.returns-else-value-le-MAX_OFFSET
returns-else-value-le-MAX_OFFSET c =
    let word = c.args.word.now in
    let a : get_or word 0 0 ≡ 48 = grind (arith, common_steps) in
    let b : get_or word 1 0 ≡ 120 = grind (arith, common_steps) in
    offset_above word (from 2 word) c.in_ok-value-in-48.value (hexadecimal_word word c.in-48.len_at_least a b) c.in_ok-value-in-48.ensures.some.1
    c.if-value-le-MAX_OFFSET.false
