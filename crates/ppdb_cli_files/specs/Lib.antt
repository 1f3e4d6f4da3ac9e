pub mod Log
pub mod Disk
pub mod Replaces
pub mod Kept
pub mod Target
pub mod Retried
