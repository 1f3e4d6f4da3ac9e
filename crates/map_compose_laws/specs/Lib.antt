pub mod Images
pub mod Links
pub mod Names
pub mod Steps
pub mod Worked
