use Rattle.std.proofs.Common.{arith}
use Rattle.ppdb_tables.{specs.Layouts.{machine_row}, proofs.RowsRead.{row_read}}
use Rattle.ppdb_tables.proofs.tables.Tables.machine.Goals as goal

pub returns-clause-row : goal.returns-clause-row
returns-clause-row g c =
    let table = c.args.self.now.machines in
    let cell_0 = c.cell.ensures.number in
    let cell_1 = c.cell-2.ensures.number in
    row_read machine_row table.layout table.bytes.now table.count c.args.row c.row-cells.result.now _ c.requires.there.0 (omega (
      arith,
      c.requires.there.1,
      c.args.self.now.machine_count,
    )) c.row-cells.ensures.bytes cc
