pub mod MovedBlob
pub mod Conditions
pub mod Writing
