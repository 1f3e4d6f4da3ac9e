pub mod Heaps
pub mod Names
pub mod Joins
pub mod Whole
pub mod WrittenNames
mod Zeros
