pub mod Counting
pub mod Fitting
pub mod Annotated
pub mod Sound
pub mod Worked
