-- What a reader of this crate must believe: the numbers, and which of several refusals is given.
pub mod Answers
pub mod Choices
pub mod Numbers
pub mod Refusals
