pub mod Documents
pub mod Fresh
pub mod Groups
pub mod Images
mod Imports
pub mod Numbers
pub mod Origins
pub mod Placed
mod Records
