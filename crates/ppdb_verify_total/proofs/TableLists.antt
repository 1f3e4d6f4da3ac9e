-- The references of the tables are those of their rows in order.
use Rattle.std.proofs.Common.{◌≡◌, ◌++◌, length, refl, ◌∙◌}
use Rattle.ppdb_tables.specs.RawTables.{RawTables, HasShape, count}
use Rattle.ppdb_verify_total.specs.HeapUses.{heap_uses, of_document, of_method, of_variable, of_constant, of_import, of_custom}
use Rattle.ppdb_verify_total.specs.TableRows.{number_of, rows_of, of_table}
use Rattle.ppdb_verify_total.specs.declared.rows.Table as table
use Rattle.ppdb_verify_total.specs.declared.rows.Table.TheVariants.{Document, MethodDebug, LocalVariable, LocalConstant, ImportScope, Custom}
use Rattle.ppdb_verify_total.proofs.RowLists.{as_many, from_row, one_by_one}

pub table_is : (raw : RawTables) (t : table.Table) → of_table raw t ≡ from_row 1 (rows_of raw t)
table_is raw Document = one_by_one (of_document raw) 1 raw.documents
table_is raw MethodDebug = one_by_one (of_method raw) 1 raw.methods
table_is raw LocalVariable = one_by_one (of_variable raw) 1 raw.variables
table_is raw LocalConstant = one_by_one (of_constant raw) 1 raw.constants
table_is raw ImportScope = one_by_one (of_import raw) 1 raw.imports
table_is raw Custom = one_by_one (of_custom raw) 1 raw.customs

pub rows_are : (raw : RawTables) → HasShape raw → (t : table.Table) → length (rows_of raw t) ≡ count raw (number_of t)
rows_are raw shape Document = as_many (of_document raw) raw.documents ∙ shape.documents
rows_are raw shape MethodDebug = as_many (of_method raw) raw.methods ∙ shape.methods
rows_are raw shape LocalVariable = as_many (of_variable raw) raw.variables ∙ shape.variables
rows_are raw shape LocalConstant = as_many (of_constant raw) raw.constants ∙ shape.constants
rows_are raw shape ImportScope = as_many (of_import raw) raw.imports ∙ shape.imports
rows_are raw shape Custom = as_many (of_custom raw) raw.customs ∙ shape.customs

-- the tables one after the other
pub tables_are : (raw : RawTables)
    → heap_uses raw ≡ of_table raw Document
    ++ (of_table raw MethodDebug ++ (of_table raw LocalVariable ++ (of_table raw LocalConstant ++ (of_table raw ImportScope ++ of_table raw Custom))))
unfolding heap_uses
tables_are raw = refl
