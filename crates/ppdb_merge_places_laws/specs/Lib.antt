pub mod Offsets
pub mod Places
pub mod References
pub mod Rows
