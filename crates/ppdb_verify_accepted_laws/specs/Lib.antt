pub mod Accepted
pub mod Cursors
