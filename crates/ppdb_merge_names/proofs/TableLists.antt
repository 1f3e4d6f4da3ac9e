-- The references of the tables are those of their rows in order.
use Rattle.std.proofs.Common.{◌≡◌, length, ◌∙◌}
use Rattle.ppdb_tables.specs.RawTables.{RawTables, HasShape, count}
use Rattle.ppdb_maps.specs.Map.{Map}
use Rattle.ppdb_verify_total.proofs.RowLists.{as_many, from_row, one_by_one}
use Rattle.ppdb_merge_names.specs.{References.{of_method, of_scope, of_import, of_machine, of_custom}, TableRows.{table_number, row_references, of_table}}
use Rattle.ppdb_merge_names.specs.declared.rows.Table as table
use Rattle.ppdb_merge_names.specs.declared.rows.Table.TheVariants.{MethodDebug, LocalScope, ImportScope, StateMachine, Custom}

pub table_is : (m : Map) (raw : RawTables) (t : table.Table) → of_table m raw t ≡ from_row 1 (row_references m raw t)
table_is m raw MethodDebug = one_by_one (of_method m raw) 1 raw.methods
table_is m raw LocalScope = one_by_one (of_scope m) 1 raw.scopes
table_is m raw ImportScope = one_by_one (of_import m raw) 1 raw.imports
table_is m raw StateMachine = one_by_one (of_machine m) 1 raw.machines
table_is m raw Custom = one_by_one (of_custom m raw) 1 raw.customs

pub rows_are : (m : Map) (raw : RawTables) → HasShape raw → (t : table.Table) → length (row_references m raw t) ≡ count raw (table_number t)
rows_are m raw shape MethodDebug = as_many (of_method m raw) raw.methods ∙ shape.methods
rows_are m raw shape LocalScope = as_many (of_scope m) raw.scopes ∙ shape.scopes
rows_are m raw shape ImportScope = as_many (of_import m raw) raw.imports ∙ shape.imports
rows_are m raw shape StateMachine = as_many (of_machine m) raw.machines ∙ shape.machines
rows_are m raw shape Custom = as_many (of_custom m raw) raw.customs ∙ shape.customs
