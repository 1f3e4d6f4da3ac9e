use Rattle.std.proofs.{Common.{length}, lemmas.Result.{err_from_is_err_and}}
use Rattle.ppdb_heaps.{specs.Views.{blobs_of}, proofs.Names.{indexes-there, indexes-end, indexes-none, indexes-fault}}
use Rattle.ppdb_heaps.proofs.name.NameIndexes.new.Goals as goal

pub returns-in_err-start-clause-none : goal.returns-in_err-start-clause-none
returns-in_err-start-clause-none c =
    let p = err_from_is_err_and c.from_residual.result c.from_residual.ensures.1 in
    rw p.1 (indexes-none (blobs_of c.args.blobs) c.args.blob.now c.in_err-start.field-0.0 c.in_err-start.ensures.missing)

pub returns-in_err-start-clause-fault : goal.returns-in_err-start-clause-fault
returns-in_err-start-clause-fault c =
    let p = err_from_is_err_and c.from_residual.result c.from_residual.ensures.1 in
    rw (p.1, p.2) (indexes-fault (blobs_of c.args.blobs) c.args.blob.now c.in_err-start.field-0.0 c.in_err-start.ensures.missing)

pub returns-clause-indexes : goal.returns-clause-indexes
returns-clause-indexes c =
    indexes-there (blobs_of c.args.blobs) c.args.blob.now c.in_ok-start.field-0.now (length c.in_ok-start.field-0.now) c.in_ok-start.ensures.found

pub returns-clause-end : goal.returns-clause-end
returns-clause-end c =
    indexes-end (blobs_of c.args.blobs) c.args.blob.now c.in_ok-start.field-0.now (length c.in_ok-start.field-0.now) c.in_ok-start.ensures.found
