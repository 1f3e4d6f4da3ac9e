pub mod HeapUses
pub mod Spans
pub mod TableRows
