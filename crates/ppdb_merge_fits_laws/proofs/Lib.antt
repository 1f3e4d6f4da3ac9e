pub mod Concrete
pub mod Found
pub mod Keyed
pub mod Least
pub mod Sources
