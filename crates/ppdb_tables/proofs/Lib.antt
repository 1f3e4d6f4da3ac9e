pub mod FieldLists
pub mod RowCounts
mod ParentCodes
mod FirstOfHead
mod FirstOfTables
mod FirstOfRows
pub mod RowsRead
mod TablesRead
pub mod NumberedRows
pub mod Walks
