use Rattle.std.proofs.Common.{◌∙◌, ap}
use Rattle.ppdb_run_words.{specs.Task.{task_of}, specs.Words.{texts, written_file}, proofs.OneTask.{one_task}}
use Rattle.ppdb_library.proofs.answer.output_of.Goals as goal

pub returns-in-Ok : goal.returns-in-Ok
returns-in-Ok c = λ task asks.
    c.output_in.ensures ∙ ap written_file (one_task (texts c.args.words.now) (task_of c.in-Ok.command) task c.in-Ok.ensures.command asks)
