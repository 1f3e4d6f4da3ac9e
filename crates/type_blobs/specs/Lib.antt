pub mod Types
pub mod Numbers
pub mod Constants
pub mod ConstantReading
pub mod Imports
pub mod ImportReading
pub mod Spelling
