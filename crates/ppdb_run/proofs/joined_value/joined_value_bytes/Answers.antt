use Rattle.ppdb_run_words.specs.Task.{inputs_of}
use Rattle.ppdb_run.proofs.Merging.{not_joined, value_joined, value_written}
use Rattle.ppdb_run.proofs.joined_value.joined_value_bytes.Goals as goal

pub returns-in-Err-clause-told : goal.returns-in-Err-clause-told
returns-in-Err-clause-told g c = λ output marks.
    not_joined (inputs_of c.args.inputs) output (record { keep_id = c.args.keep_id; marks = marks }) c.args.merger.traces c.in-Err.stop
    c.in-Err.ensures.told

pub returns-clause-told : goal.returns-clause-told
returns-clause-told g c = λ output marks.
    value_written (inputs_of c.args.inputs) output (record { keep_id = c.args.keep_id; marks = marks }) c.args.merger.traces c.in-Ok.value
    c.value_bytes.result c.in-Ok.ensures.value (c.value_bytes.ensures.told output marks)

pub returns-clause-joined : goal.returns-clause-joined
returns-clause-joined g c =
    value_joined c.args.keep_id c.args.merger.traces c.in-Ok.value c.value_bytes.result c.in-Ok.ensures.value c.value_bytes.ensures.says
    c.value_bytes.ensures.again
