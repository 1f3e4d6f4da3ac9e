use Rattle.std.proofs.lemmas.Str.{IsUtf8-from_ascii}
use Rattle.ppdb_queries_list.proofs.Words.{digits_ascii}
use Rattle.ppdb_queries_list.proofs.word.hexadecimal.Goals as goal

pub returns-in-Err-clause-none : goal.returns-in-Err-clause-none
returns-in-Err-clause-none c = λ numeral below. c.in-Err.ensures.cases.0 (IsUtf8-from_ascii _ (digits_ascii c.args.digits.now numeral.1))
