use Rattle.std.proofs.{Common.{length}, lemmas.Result.{err_from_is_err_and}}
use Rattle.ppdb_heaps.{specs.Views.{blobs_of}, proofs.Names.{separator-missing, separator-there}}
use Rattle.ppdb_heaps.proofs.name.NameCursor.new.Goals as goal

pub returns-in_err-start-clause-fault : goal.returns-in_err-start-clause-fault
returns-in_err-start-clause-fault c =
    let p = err_from_is_err_and c.from_residual.result c.from_residual.ensures.1 in
    rw (p.1, p.2) (separator-missing (blobs_of c.args.blobs) c.args.blob.now c.in_err-start.field-0.0 c.in_err-start.ensures.missing)

pub returns-clause-begun : goal.returns-clause-begun
returns-clause-begun c =
    separator-there (blobs_of c.args.blobs) c.args.blob.now c.in_ok-start.field-0.now (length c.in_ok-start.field-0.now) c.in_ok-start.ensures.found
