pub mod Sums
pub mod Rising
pub mod Ascending
pub mod RowLists
pub mod TableLists
pub mod Placed
pub mod Walked
