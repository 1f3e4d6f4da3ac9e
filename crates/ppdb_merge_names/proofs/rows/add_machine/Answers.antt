use Rattle.std.proofs.{Common.{Err, sym, ◌∙◌, [], ◌∷◌}, lemmas.Result.{err_from_is_err_and}}
use Rattle.ppdb_base.specs.Place.{cell}
use Rattle.ppdb_merge_names.{specs.References.{names, of_machine}, proofs.Going.{goes-as, goes-none, goes-cut, goes-then, goes-at}}
use Rattle.ppdb_merge_names.proofs.RowNames.{machine_dropped, machine_names}
use Rattle.ppdb_merge_names.proofs.rows.add_machine.Goals as goal

pub returns-then-drops_machine : goal.returns-then-drops_machine
returns-then-drops_machine c =
    let s = c.args.imager.now in
    goes-none s (of_machine s.map (c.args.row, c.args.cells.now))
    (machine_dropped s.map c.args.row c.args.cells.now (sym c.drops_machine.ensures ∙ c.if-drops_machine.true))

pub returns-in_err-add : goal.returns-in_err-add
returns-in_err-add c =
    let p = err_from_is_err_and c.from_residual.result c.from_residual.ensures.1 in
    let s = c.args.imager.now in
    let cells = c.args.cells.now in
    rw (p.1, p.2)
    (goes-as s c.add.new.self (names (cell 0x36 c.args.row 0) 0x06 cells.move_next ∷ names (cell 0x36 c.args.row 1) 0x06 cells.kickoff ∷ [])
    (of_machine s.map (c.args.row, cells)) (Err c.in_err-add.field-0.0)
    (machine_names s.map c.args.row cells (sym c.drops_machine.ensures ∙ c.if-drops_machine.false))
    (goes-cut s c.add.new.self c.add.new.self (names (cell 0x36 c.args.row 0) 0x06 cells.move_next ∷ [])
    (names (cell 0x36 c.args.row 1) 0x06 cells.kickoff ∷ []) c.in_err-add.field-0.0
    (goes-at s c.add.new.self c.cell.result (cell 0x36 c.args.row 0) 0x06 cells.move_next (Err c.in_err-add.field-0.0) c.cell.ensures c.in_err-add.ensures)))

pub returns : goal.returns
returns c =
    let s = c.args.imager.now in
    let cells = c.args.cells.now in
    goes-as s c.add-2.new.self (names (cell 0x36 c.args.row 0) 0x06 cells.move_next ∷ names (cell 0x36 c.args.row 1) 0x06 cells.kickoff ∷ [])
    (of_machine s.map (c.args.row, cells)) c.add-2.result
    (machine_names s.map c.args.row cells (sym c.drops_machine.ensures ∙ c.if-drops_machine.false))
    (goes-then s c.add.new.self c.add-2.new.self (names (cell 0x36 c.args.row 0) 0x06 cells.move_next ∷ [])
    (names (cell 0x36 c.args.row 1) 0x06 cells.kickoff ∷ []) c.add-2.result
    (rw c.cell.ensures at c.in_ok-add.ensures)
    (goes-at c.add.new.self c.add-2.new.self c.cell-2.result (cell 0x36 c.args.row 1) 0x06 cells.kickoff c.add-2.result c.cell-2.ensures c.add-2.ensures))
