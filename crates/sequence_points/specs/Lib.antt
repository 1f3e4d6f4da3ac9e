pub mod Ranges
pub mod Records
pub mod Points
pub mod Places
pub mod Written
pub mod Following
pub mod MovedPoints
