use Rattle.std.proofs.Common.{refl}
use Rattle.ppdb_verify.specs.Views.{raw_file}
use Rattle.ppdb_run_stops.specs.declared.stop.Stop.TheVariants as stops
use Rattle.ppdb_run.{specs.Outcome.{form_of}, proofs.Lookups.{not_listed, put_all, put_cut}}
use Rattle.ppdb_run.proofs.lookup.answer_list.Goals as goal

pub returns-in-Err-clause-answered : goal.returns-in-Err-clause-answered
returns-in-Err-clause-answered g c =
    not_listed (Unit {0}) (form_of c.args.json) (raw_file c.args.file.now) c.args.list.now (stops.Unlisted c.args.name c.in-Err.line) c.args.name.now c.in-Err.line
    _ refl c.in-Err.ensures.other refl tt

pub returns-in_err-put_lookup-clause-answered : goal.returns-in_err-put_lookup-clause-answered
returns-in_err-put_lookup-clause-answered g c =
    put_cut c.from_residual.result c.in_err-put_lookup.field-0.0 (form_of c.args.json) c.form.result c.args.name.now (raw_file c.args.file.now) c.args.list.now
    c.in-Ok.ensures.listed.0 _ _ _ _ c.form.ensures c.from_residual.ensures.1 c.in-Ok.ensures.listed.1
    (c.in_err-put_lookup.ensures.puts c.in-Ok.ensures.listed.0 c.in-Ok.ensures.listed.1)

pub returns-clause-answered : goal.returns-clause-answered
returns-clause-answered g c =
    put_all _ (form_of c.args.json) c.form.result c.args.name.now (raw_file c.args.file.now) c.args.list.now c.in-Ok.ensures.listed.0 _ _ c.form.ensures
    c.in-Ok.ensures.listed.1 (c.in_ok-put_lookup.ensures.puts c.in-Ok.ensures.listed.0 c.in-Ok.ensures.listed.1).ok
