pub mod Kept
pub mod Laws
pub mod Origins
pub mod Alone
