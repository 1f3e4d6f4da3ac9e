pub mod Determined
pub mod Lines
pub mod Lists
