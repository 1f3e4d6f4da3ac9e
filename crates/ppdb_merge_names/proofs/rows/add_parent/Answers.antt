use Rattle.std.proofs.{Common.{Err, [], ◌∷◌}, lemmas.Result.{err_from_is_err_and}}
use Rattle.ppdb_base.specs.Place.{cell}
use Rattle.ppdb_verify.specs.Views.{raw_file}
use Rattle.ppdb_merge_names.{specs.References.{names, inside, methods_of}, proofs.Going.{goes-cut, goes-then, goes-at}}
use Rattle.ppdb_merge_names.proofs.rows.add_parent.Goals as goal

pub returns-in_err-add : goal.returns-in_err-add
returns-in_err-add c =
    let p = err_from_is_err_and c.from_residual.result c.from_residual.ensures.1 in
    let s = c.args.imager.now in
    let raw = (raw_file c.args.file.now).tables in
    rw (p.1, p.2)
    (goes-cut s c.add.new.self c.add.new.self (names (cell 0x37 c.args.row 0) c.args.parent.table c.args.parent.row ∷ [])
    (inside 0x37 c.args.row 2 (methods_of raw c.args.cells.now)) c.in_err-add.field-0.0
    (goes-at s c.add.new.self c.cell.result (cell 0x37 c.args.row 0) c.args.parent.table c.args.parent.row
    (Err c.in_err-add.field-0.0) c.cell.ensures c.in_err-add.ensures))

pub returns : goal.returns
returns c =
    let s = c.args.imager.now in
    let raw = (raw_file c.args.file.now).tables in
    goes-then s c.add.new.self c.add_steps.new.imager (names (cell 0x37 c.args.row 0) c.args.parent.table c.args.parent.row ∷ [])
    (inside 0x37 c.args.row 2 (methods_of raw c.args.cells.now)) c.add_steps.result
    (rw c.cell.ensures at c.in_ok-add.ensures) c.add_steps.ensures
