pub mod GoodRows
pub mod Valid
