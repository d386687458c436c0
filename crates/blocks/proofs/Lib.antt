-- The laws of `blocks`, for its proofs and for the crates above.
pub mod Numbers
