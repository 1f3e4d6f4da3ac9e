use Rattle.std.proofs.Common.{sym}
use Rattle.ppdb_build.proofs.Limits.{early_first, step_first}
use Rattle.ppdb_build.proofs.write.write_file.Goals as goal

pub returns-in-Some-clause-limit : goal.returns-in-Some-clause-limit
returns-in-Some-clause-limit c = early_first c.args.value.now c.in-Some.limit (sym c.in-Some.ensures)

pub returns-in-Err-clause-limit : goal.returns-in-Err-clause-limit
returns-in-Err-clause-limit c = step_first c.args.value.now (sym c.in-None.ensures) c.in-Err.error c.in-Err.ensures.limit
