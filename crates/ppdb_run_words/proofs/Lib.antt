pub mod Choices
pub mod OneTask
pub mod PairWords
pub mod WordList
