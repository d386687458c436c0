-- What a reader of this crate must believe: what a record shows, the whole outcome of start, wrap and unwrap from all they are given, chains of them;
-- and, in Promises, what is promised of them, demand by demand. Allowed and Ends have the words in which the code of an instance is told.
pub mod Allowed
pub mod Chain
pub mod Ends
pub mod Outcome
pub mod Promises
pub mod Session
pub mod Words
