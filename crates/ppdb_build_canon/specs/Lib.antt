pub mod Uses
pub mod Canonical
pub mod Canon
pub mod Laws
pub mod Limits
pub mod Worked
pub mod WorkedParts
