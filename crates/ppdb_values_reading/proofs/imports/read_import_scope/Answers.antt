use Rattle.ppdb_values.specs.Imports.{import_scope_of}
use Rattle.ppdb_verify.specs.Views.{raw_file}
use Rattle.ppdb_values_reading.proofs.Rows.{row_made}
use Rattle.ppdb_values_reading.proofs.imports.read_import_scope.Goals as goal

pub returns-clause-scope : goal.returns-clause-scope
returns-clause-scope g c =
    let raw = (raw_file c.args.file.now).tables in
    rw c.imports_of.ensures (row_made (import_scope_of raw) raw.imports c.args.row c.import-cells.result c.import-cells.ensures.row)
