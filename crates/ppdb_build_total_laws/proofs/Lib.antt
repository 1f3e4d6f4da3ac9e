pub mod Sums
pub mod Spans
pub mod MethodRows
pub mod Held
pub mod NameParts
pub mod ImportTexts
pub mod Totals
