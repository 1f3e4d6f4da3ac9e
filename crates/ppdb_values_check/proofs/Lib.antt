pub mod Parents
pub mod Joined
pub mod Keys
pub mod Listed
pub mod Open
pub mod Pairs
