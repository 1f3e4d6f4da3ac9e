use Rattle.std.proofs.{Common.{arith}, lemmas.Str.{IsUtf8-from_ascii}}
use Rattle.ppdb_queries_list.proofs.Words.{decimal_ascii}
use Rattle.ppdb_queries_list.proofs.word.decimal.Goals as goal

pub returns-in-Err-clause-none : goal.returns-in-Err-clause-none
returns-in-Err-clause-none c = λ n to is. c.in-Err.ensures.cases.0 (IsUtf8-from_ascii _ (decimal_ascii c.args.word.now n (grind (arith, to)) is))
