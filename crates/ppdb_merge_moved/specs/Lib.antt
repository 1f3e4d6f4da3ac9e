pub mod Fits
pub mod FitsMethod
pub mod Images
pub mod Laws
pub mod Moved
pub mod OnRows
