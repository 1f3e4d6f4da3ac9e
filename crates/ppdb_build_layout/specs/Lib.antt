pub mod Told
pub mod Bytes
pub mod Laid
pub mod Worked
