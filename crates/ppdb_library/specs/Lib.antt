pub mod Calls
pub mod Ended
pub mod Faults
pub mod Folder
pub mod Lines
pub mod Pieces
pub mod Room
pub mod Words
