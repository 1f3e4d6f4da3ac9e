pub mod Checking
pub mod Cuts
pub mod Lists
pub mod Numbers
pub mod Prefixed
pub mod Words
