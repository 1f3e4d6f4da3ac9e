pub mod Families
pub mod Fitting
pub mod Streamed
pub mod Headed
pub mod Counted
pub mod Parts
pub mod Bytes
