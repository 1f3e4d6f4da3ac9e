pub mod Documents
pub mod Told
