use Rattle.std.{proofs.Common.{◌≡◌, None, subst}, specs.Prelude.{IfOk}}
use Rattle.ppdb_verify.specs.Views.{raw_file}
use Rattle.ppdb_merge_fits.specs.{Clashes.{first_clash}, Signatures.{all_images}}
use Rattle.ppdb_merge.proofs.RowAdding.{first_of, unfit_if}
use Rattle.ppdb_merge.proofs.row_reading.judged.Goals as goal

pub returns-clause-fits : goal.returns-clause-fits
returns-clause-fits g c =
    subst (λ b. IfOk c.judge.result (λ rows. first_clash c.args.marks.now b c.args.map.now (raw_file c.args.file.now) ≡ None)) (first_of c.args.inputs.now)
    c.judge.ensures.fits

pub returns-clause-rows : goal.returns-clause-rows
returns-clause-rows g c =
    subst (λ b. IfOk c.judge.result (λ rows. rows ≡ all_images b c.args.map.now (raw_file c.args.file.now))) (first_of c.args.inputs.now) c.judge.ensures.rows

pub returns-clause-refused : goal.returns-clause-refused
returns-clause-refused g c = unfit_if c.args.marks.now c.args.inputs.now c.args.map.now (raw_file c.args.file.now) c.judge.result c.judge.ensures.refused
