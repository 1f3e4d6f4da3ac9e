use Rattle.std.proofs.Common.{sym, subst, true, false}
use Rattle.ppdb_cli_files.{specs.declared.place.Call.TheVariants.{Create}, specs.Replaces.{refused, Replaces}, proofs.Joined.{one, weaker}}
use Rattle.ppdb_cli_files.proofs.Runs.{run_not_made, run_done, run_not_flushed, not_written_between, named_between}
use Rattle.ppdb_cli_files.proofs.replace.replace_file.Goals as goal

pub returns-in-Err : goal.returns-in-Err
returns-in-Err g c = weaker _ _ _ _ (one _ _ (refused Create) c.in-Err.ensures)
    (λ xs h. subst (Replaces _ _) (sym h) (run_not_made c.args.bytes.now c.in-Err.error))

pub returns-in-Err-fill : goal.returns-in-Err-fill
returns-in-Err-fill g c =
    let e = c.in-Err-fill.error in
    not_written_between _ _ _ _ c.args.bytes.now e e _ c.in_default.ensures c.in-Err-fill.ensures c.remove.ensures.call

pub returns-in-Ok : goal.returns-in-Ok
returns-in-Ok g c =
    let bytes = c.args.bytes.now in
    named_between _ _ _ _ bytes true _ c.in_default.ensures c.in_default-fill.ensures c.in-Ok.ensures (run_done bytes)

pub returns-in-Err-flush_folder : goal.returns-in-Err-flush_folder
returns-in-Err-flush_folder g c =
    let bytes = c.args.bytes.now in
    let e = c.in-Err-flush_folder.error in
    named_between _ _ _ _ bytes false _ c.in_default.ensures c.in_default-fill.ensures c.in-Err-flush_folder.ensures (run_not_flushed bytes e)
