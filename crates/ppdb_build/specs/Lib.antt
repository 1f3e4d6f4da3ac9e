pub mod Building
pub mod Joining
