use Rattle.std.proofs.{Common.{sym, length}, lemmas.Result.{err_from_is_err_and}}
use Rattle.ppdb_heaps.{specs.Views.{blobs_of}, proofs.Names.{part-end, part-missing, part-absent, part-there, index-end, index-missing, index-absent, index-there}}
use Rattle.ppdb_heaps.proofs.Names.{stays_at}
use Rattle.ppdb_heaps.proofs.name.part_at.Goals as goal

pub returns-then-at-start-clause-content : goal.returns-then-at-start-clause-content
returns-then-at-start-clause-content c = part-end (blobs_of c.args.blobs) c.args.blob.now c.args.start c.args.at c.if-at-blob.true c.if-at-start.true

pub returns-then-at-start-clause-index : goal.returns-then-at-start-clause-index
returns-then-at-start-clause-index c = index-end (blobs_of c.args.blobs) c.args.blob.now c.args.start c.args.at c.if-at-blob.true c.if-at-start.true

pub returns-in_err-index-clause-content : goal.returns-in_err-index-clause-content
returns-in_err-index-clause-content c =
    let p = err_from_is_err_and c.from_residual.result c.from_residual.ensures.1 in
    let goes_on = stays_at c.args.at (length c.args.blob.now) c.args.start c.else-at-blob.either in
    rw (p.1, p.2) (part-missing (blobs_of c.args.blobs) c.args.blob.now c.args.start c.args.at c.in_err-index.field-0.0 c.requires.within goes_on
    (sym c.in_err-index.ensures.found))

pub returns-in_err-index-clause-index : goal.returns-in_err-index-clause-index
returns-in_err-index-clause-index c =
    let p = err_from_is_err_and c.from_residual.result c.from_residual.ensures.1 in
    let goes_on = stays_at c.args.at (length c.args.blob.now) c.args.start c.else-at-blob.either in
    rw (p.1, p.2) (index-missing (blobs_of c.args.blobs) c.args.blob.now c.args.start c.args.at c.in_err-index.field-0.0 c.requires.within goes_on
    (sym c.in_err-index.ensures.found))

pub returns-in-Some-clause-content : goal.returns-in-Some-clause-content
returns-in-Some-clause-content c = (
  part-there (blobs_of c.args.blobs) c.args.blob.now c.args.start c.args.at c.in_ok-index.index c.in_ok-index.len c.in-Some.content.now c.requires.begun
      (sym c.in_ok-index.ensures.found) (sym c.in-Some.ensures.blob),
  c.in_ok-index.ensures.within,
)

pub returns-in-Some-clause-index : goal.returns-in-Some-clause-index
returns-in-Some-clause-index c = (
  index-there (blobs_of c.args.blobs) c.args.blob.now c.args.start c.args.at c.in_ok-index.index c.in_ok-index.len c.in-Some.content.now c.requires.begun
      (sym c.in_ok-index.ensures.found) (sym c.in-Some.ensures.blob),
  c.in_ok-index.ensures.within,
)

pub returns-in-None-clause-content : goal.returns-in-None-clause-content
returns-in-None-clause-content c = part-absent (blobs_of c.args.blobs) c.args.blob.now c.args.start c.args.at c.in_ok-index.index c.in_ok-index.len
    (sym c.in_ok-index.ensures.found) (sym c.in-None.ensures.blob)

pub returns-in-None-clause-index : goal.returns-in-None-clause-index
returns-in-None-clause-index c = index-absent (blobs_of c.args.blobs) c.args.blob.now c.args.start c.args.at c.in_ok-index.index c.in_ok-index.len
    (sym c.in_ok-index.ensures.found) (sym c.in-None.ensures.blob)
