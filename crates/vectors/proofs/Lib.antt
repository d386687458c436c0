-- What is left of a line behind its first word.
pub mod Behind
