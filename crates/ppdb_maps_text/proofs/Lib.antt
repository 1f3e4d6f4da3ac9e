pub mod Found
pub mod Orders
pub mod Putting
mod Words
mod Ahead
pub mod Groups
pub mod OneLine
mod Told
pub mod Got
pub mod Starting
mod Methods
pub mod Reading
pub mod Entries
pub mod Held
pub mod Judged
pub mod Parts
