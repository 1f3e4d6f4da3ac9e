pub mod Heaps
pub mod Views
pub mod Names
pub mod Cursor
pub mod Joining
