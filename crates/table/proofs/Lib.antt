-- The laws of `table`, for its proofs and for the crates above.
pub mod Answers
pub mod Exact
pub mod Plain
pub mod Once
