pub mod Ascending
pub mod MapTexts
pub mod Putting
pub mod Laws
