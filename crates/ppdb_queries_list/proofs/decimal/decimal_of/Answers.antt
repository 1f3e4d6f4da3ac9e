use Rattle.std.proofs.{Common.{◌≡◌, ◌≢◌, length, get_or, arith}, lemmas.Grind.{common_steps}}
use Rattle.ppdb_queries_list.proofs.Numbers.{begins_as_number, parsed, not_parsed}
use Rattle.ppdb_queries_list.proofs.decimal.decimal_of.Goals as goal

pub returns-in-48-clause-some : goal.returns-in-48-clause-some
returns-in-48-clause-some c =
    let plain : get_or c.args.word.now 0 0 ≢ 43 = grind (arith, common_steps) in
    let lead : get_or c.args.word.now 0 0 ≡ 48 → length c.args.word.now ≡ 1 = grind (arith, common_steps) in
    rw c.ok.ensures.value (parsed c.parse.result c.args.word.now c.parse.ensures.value.0 plain lead)

pub returns-in-48-clause-none : goal.returns-in-48-clause-none
returns-in-48-clause-none c = rw c.ok.ensures.value (not_parsed c.parse.result c.args.word.now c.parse.ensures.value.0)

pub returns-in_default-clause-none : goal.returns-in_default-clause-none
returns-in_default-clause-none c = λ n below is. let h = begins_as_number n c.args.word.now below is in grind (arith, common_steps, h.some, h.digit, h.first)

pub returns-in_default-2-clause-none : goal.returns-in_default-2-clause-none
returns-in_default-2-clause-none c = λ n below is. let h = begins_as_number n c.args.word.now below is in grind (arith, common_steps, h.some, h.digit, h.first)

pub returns-in_default-3-clause-none : goal.returns-in_default-3-clause-none
returns-in_default-3-clause-none c = λ n below is. let h = begins_as_number n c.args.word.now below is in grind (arith, common_steps, h.some, h.digit, h.first)

pub returns-in_default-4-clause-none : goal.returns-in_default-4-clause-none
returns-in_default-4-clause-none c = λ n below is. let h = begins_as_number n c.args.word.now below is in grind (arith, common_steps, h.some, h.digit, h.first)

pub returns-in_default-5-clause-none : goal.returns-in_default-5-clause-none
returns-in_default-5-clause-none c = λ n below is. let h = begins_as_number n c.args.word.now below is in grind (arith, common_steps, h.some, h.digit, h.first)
