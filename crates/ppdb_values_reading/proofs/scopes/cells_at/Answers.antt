use Rattle.std.proofs.Common.{arith}
use Rattle.ppdb_verify.specs.Views.{raw_file}
use Rattle.ppdb_values_reading.proofs.Rows.{row_past}
use Rattle.ppdb_values_reading.proofs.scopes.cells_at.Goals as goal

pub returns-else-row-count-clause-cells : goal.returns-else-row-count-clause-cells
returns-else-row-count-clause-cells g c =
    let raw = (raw_file c.args.file.now).tables in
    row_past raw.scopes c.args.row (omega (arith, c.facts.ensures.rules.shape.scopes))
