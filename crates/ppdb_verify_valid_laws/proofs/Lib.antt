pub mod GoodRows
pub mod StreamBytes
pub mod ValidFiles
