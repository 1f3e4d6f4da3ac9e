use Rattle.ppdb_verify.specs.Views.{raw_file}
use Rattle.ppdb_run_stops.specs.declared.stop.Stop.TheVariants.{Unfit}
use Rattle.ppdb_run_words.specs.Task.{input_of}
use Rattle.ppdb_run.proofs.Merges.{input_told, misfit_told, one_added, no_map_told, tells_unfit, comes_unfit}
use Rattle.ppdb_run.proofs.merged.add_texts.Goals as goal

pub returns-in-Err-clause-told : goal.returns-in-Err-clause-told
returns-in-Err-clause-told g c =
    no_map_told c.args.merger.now.marks c.args.merger.now.traces c.args.merger.now.traces (input_of c.args.input) c.args.bytes.now c.args.text
    (raw_file c.in-Ok.file) c.in-Ok.ensures.accepted c.in-Ok.ensures.file c.in-Err.stop c.in-Err.ensures.told

pub returns-in-Ok-add-clause-told : goal.returns-in-Ok-add-clause-told
returns-in-Ok-add-clause-told g c =
    input_told c.args.merger.now.marks c.args.merger.now.traces c.add.new.self.traces (input_of c.args.input) c.args.bytes.now c.args.text
    (raw_file c.in-Ok.file) c.in-Ok.ensures.accepted c.in-Ok.ensures.file c.in-Ok-map_of.map c.in-Ok-map_of.ensures.told
    c.in-Ok-add.field-0 c.in-Ok-add.ensures.added

pub returns-in-Err-add-clause-told : goal.returns-in-Err-add-clause-told
returns-in-Err-add-clause-told g c =
    misfit_told c.args.merger.now.marks c.args.merger.now.traces c.args.merger.now.traces (input_of c.args.input) c.args.bytes.now c.args.text
    (raw_file c.in-Ok.file) c.in-Ok.ensures.accepted c.in-Ok.ensures.file c.in-Ok-map_of.map c.in-Ok-map_of.ensures.told
    (Unfit c.args.input.file c.in-Err-add.error) c.in-Err-add.error (tells_unfit (Unfit c.args.input.file c.in-Err-add.error))
    c.in-Err-add.ensures.refused

pub returns-in-Ok-add-clause-one : goal.returns-in-Ok-add-clause-one
returns-in-Ok-add-clause-one g c =
    one_added c.args.merger.now.marks c.args.merger.now.traces c.add.new.self.traces (input_of c.args.input) c.args.bytes.now c.args.text
    (raw_file c.in-Ok.file) c.in-Ok.ensures.accepted c.in-Ok.ensures.file c.in-Ok-map_of.map c.in-Ok-map_of.ensures.told
    c.in-Ok-add.ensures.added c.in-Ok-add.ensures.fits

pub returns-in-Err-add-clause-causes : goal.returns-in-Err-add-clause-causes
returns-in-Err-add-clause-causes g c = comes_unfit (Unfit c.args.input.file c.in-Err-add.error)
