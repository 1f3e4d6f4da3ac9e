pub mod Begins
pub mod Lengths
pub mod Tables
