pub mod Heaps
pub mod Documents
pub mod Methods
pub mod Scopes
pub mod Others
pub mod Whole
pub mod Added
pub mod Lens
