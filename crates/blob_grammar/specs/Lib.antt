pub mod Grammar
pub mod Allowed
pub mod Reading
pub mod Ending
pub mod Places
pub mod Reader
pub mod Cursors
