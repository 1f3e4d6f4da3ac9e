pub mod Counts
pub mod Laid
