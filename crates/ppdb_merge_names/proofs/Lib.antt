pub mod Going
pub mod Walked
pub mod TableLists
pub mod RowNames
pub mod ConstantLists
pub mod Still
pub mod Parts
