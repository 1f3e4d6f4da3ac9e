pub mod Links
pub mod Breaks
pub mod Found
