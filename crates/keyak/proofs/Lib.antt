-- The laws of `keyak`, for its proofs and for the crates above.
pub mod Once
pub mod Records
