use Rattle.ppdb_values.specs.Value.{variable_of}
use Rattle.ppdb_verify.specs.Views.{raw_file}
use Rattle.ppdb_values_reading.proofs.Rows.{row_made}
use Rattle.ppdb_values_reading.proofs.variables.read_variable.Goals as goal

pub returns-clause-variable : goal.returns-clause-variable
returns-clause-variable g c =
    let raw = (raw_file c.args.file.now).tables in
    rw c.text.ensures (row_made (variable_of raw) raw.variables c.args.row c.variable-cells.result c.variable-cells.ensures.row)
