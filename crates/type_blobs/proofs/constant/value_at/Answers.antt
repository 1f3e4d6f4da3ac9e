use Rattle.std.proofs.{Common.{sym, arith}, lemmas.Result.{err_from_is_err_and}}
use Rattle.type_blobs.proofs.BodiesTaken.{value_missing, value_end, value_more, enumerated_refused, enumerated_end, enumerated_more}
use Rattle.type_blobs.proofs.constant.value_at.Goals as goal

pub returns-in_err-value : goal.returns-in_err-value
returns-in_err-value c =
    let p = err_from_is_err_and c.from_residual.result c.from_residual.ensures.1 in
    rw (p.1, p.2) (value_missing c.args.limits c.args.blob.now c.args.code c.size_of-size.result c.args.at c.in_err-value.field-0.0 c.size_of-size.ensures.value
    c.requires.from c.requires.to c.in_err-value.ensures.missing)

pub returns-then-end-blob : goal.returns-then-end-blob
returns-then-end-blob c = value_end c.args.limits c.args.blob.now c.args.code c.size_of-size.result c.args.at c.in_ok-value.value.now
    c.size_of-size.ensures.value c.requires.from c.requires.to c.in_ok-value.ensures.found c.if-end-blob.true

pub returns-then-not-is_enumerable : goal.returns-then-not-is_enumerable
returns-then-not-is_enumerable c =
    rw c.out_of_range.ensures (value_more c.args.limits c.args.blob.now c.args.code c.size_of-size.result c.args.at c.in_ok-value.value.now
    c.size_of-size.ensures.value c.requires.from c.requires.to c.in_ok-value.ensures.found (sym c.if-not-is_enumerable.ensures)
    (omega (arith, c.in_ok-value.ensures.found.1)))

pub returns-in_err-target : goal.returns-in_err-target
returns-in_err-target c =
    let p = err_from_is_err_and c.from_residual-in_err-target.result c.from_residual-in_err-target.ensures.1 in
    rw (p.1, p.2) (enumerated_refused c.args.limits c.args.blob.now c.args.code c.size_of-size.result c.args.at c.in_ok-value.value.now
    c.in_err-target.field-0.0 c.size_of-size.ensures.value c.requires.from c.requires.to c.in_ok-value.ensures.found (sym c.if-not-is_enumerable.ensures)
    (omega (arith, c.in_ok-value.ensures.found.1)) (sym c.in_err-target.ensures.found))

pub returns-then-last-blob : goal.returns-then-last-blob
returns-then-last-blob c =
    rw c.out_of_range-then-last-blob.ensures
    (enumerated_more c.args.limits c.args.blob.now c.args.code c.size_of-size.result c.args.at c.in_ok-value.value.now c.in_ok-target.target c.in_ok-target.last
    c.size_of-size.ensures.value c.requires.from c.requires.to c.in_ok-value.ensures.found (sym c.if-not-is_enumerable.ensures)
    (sym c.in_ok-target.ensures.found) c.if-last-blob.true)

pub returns : goal.returns
returns c =
    enumerated_end c.args.limits c.args.blob.now c.args.code c.size_of-size.result c.args.at c.in_ok-value.value.now c.in_ok-target.target c.in_ok-target.last
    c.size_of-size.ensures.value c.requires.from c.requires.to c.in_ok-value.ensures.found (sym c.if-not-is_enumerable.ensures)
    (sym c.in_ok-target.ensures.found) (omega (arith, c.in_ok-target.ensures.within))
