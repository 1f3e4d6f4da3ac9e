pub mod Pairs
pub mod Record
pub mod Address
pub mod Laws
pub mod Search
pub mod FileLinks
pub mod RecordRows
