use Rattle.ppdb_run_words.proofs.OneTask.{one_task}
use Rattle.ppdb_run_words.proofs.laws.one_task_at_most.Goals as goal

pub returns : goal.returns
returns c = one_task
