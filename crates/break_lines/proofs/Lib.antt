pub mod Rows
pub mod Names
pub mod Methods
pub mod Documents
