use Rattle.ppdb_run_words.specs.Task.{input_of}
use Rattle.ppdb_run.proofs.Merges.{map_told, texts_told}
use Rattle.ppdb_run.proofs.merged.add_input.Goals as goal

pub returns-in-Err-read_input-clause-told : goal.returns-in-Err-read_input-clause-told
returns-in-Err-read_input-clause-told g c =
    map_told (g.F.Folder.files c.args.folder.now) c.args.merger.now.marks c.args.merger.now.traces c.args.merger.now.traces (input_of c.args.input)
    c.in-Ok.bytes
    c.in-Ok.ensures.told c.in-Err-read_input.stop (rw c.in-Ok.ensures.files at c.in-Err-read_input.ensures.told)

pub returns-clause-told : goal.returns-clause-told
returns-clause-told g c =
    texts_told (g.F.Folder.files c.args.folder.now) c.args.merger.now.marks c.args.merger.now.traces c.add_texts.new.merger.traces
    (input_of c.args.input) c.in-Ok.bytes c.in-Ok.ensures.told c.add_texts.result c.in-Ok-read_input.text
    (rw c.in-Ok.ensures.files at c.in-Ok-read_input.ensures.told) (rw c.as_slice.ensures at c.add_texts.ensures.told)
