use Rattle.std.proofs.Common.{sym, ◌∙◌, ap}
use Rattle.ppdb_tables.specs.RawTables.{row_at}
use Rattle.ppdb_verify.specs.Views.{raw_file}
use Rattle.ppdb_merge_names.specs.{References.{of_method, of_scope, of_import, of_machine, of_custom}, TableRows.{row_references}}
use Rattle.ppdb_merge_names.specs.declared.rows.Table as table
use Rattle.ppdb_merge_names.proofs.Going.{goes-as}
use Rattle.ppdb_verify_total.proofs.RowLists.{names_are}
use Rattle.ppdb_merge_names.proofs.rows.add_row.Goals as goal

pub returns-in-MethodDebug : goal.returns-in-MethodDebug
returns-in-MethodDebug g c names there =
    let s = c.args.imager.now in
    let raw = (raw_file c.args.file.now).tables in
    let is = names_are (of_method s.map raw) raw.methods c.args.row names c.method_debug-cells.result
    (ap (λ (t : table.Table). row_at (row_references s.map raw t) c.args.row) (sym c.in-MethodDebug.is) ∙ there) c.method_debug-cells.ensures.row in
    goes-as s c.add_method.new.imager (of_method s.map raw (c.args.row, c.method_debug-cells.result)) names c.add_method.result is c.add_method.ensures

pub returns-in-LocalScope : goal.returns-in-LocalScope
returns-in-LocalScope g c names there =
    let s = c.args.imager.now in
    let raw = (raw_file c.args.file.now).tables in
    let is = names_are (of_scope s.map) raw.scopes c.args.row names c.scope.result
    (ap (λ (t : table.Table). row_at (row_references s.map raw t) c.args.row) (sym c.in-LocalScope.is) ∙ there) c.scope.ensures.row in
    goes-as s c.add_scope.new.imager (of_scope s.map (c.args.row, c.scope.result)) names c.add_scope.result is c.add_scope.ensures

pub returns-in-ImportScope : goal.returns-in-ImportScope
returns-in-ImportScope g c names there =
    let s = c.args.imager.now in
    let raw = (raw_file c.args.file.now).tables in
    let is = names_are (of_import s.map raw) raw.imports c.args.row names c.import.result
    (ap (λ (t : table.Table). row_at (row_references s.map raw t) c.args.row) (sym c.in-ImportScope.is) ∙ there) c.import.ensures.row in
    goes-as s c.add_import.new.imager (of_import s.map raw (c.args.row, c.import.result)) names c.add_import.result is c.add_import.ensures

pub returns-in-StateMachine : goal.returns-in-StateMachine
returns-in-StateMachine g c names there =
    let s = c.args.imager.now in
    let raw = (raw_file c.args.file.now).tables in
    let is = names_are (of_machine s.map) raw.machines c.args.row names c.machine.result
    (ap (λ (t : table.Table). row_at (row_references s.map raw t) c.args.row) (sym c.in-StateMachine.is) ∙ there) c.machine.ensures.row in
    goes-as s c.add_machine.new.imager (of_machine s.map (c.args.row, c.machine.result)) names c.add_machine.result is c.add_machine.ensures

pub returns-in-Custom : goal.returns-in-Custom
returns-in-Custom g c names there =
    let s = c.args.imager.now in
    let raw = (raw_file c.args.file.now).tables in
    let is = names_are (of_custom s.map raw) raw.customs c.args.row names c.custom-cells.result
    (ap (λ (t : table.Table). row_at (row_references s.map raw t) c.args.row) (sym c.in-Custom.is) ∙ there) c.custom-cells.ensures.row in
    goes-as s c.add_custom.new.imager (of_custom s.map raw (c.args.row, c.custom-cells.result)) names c.add_custom.result is c.add_custom.ensures
