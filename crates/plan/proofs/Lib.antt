-- The laws of `plan`, for its proofs and for the crates above.
pub mod Knots
pub mod StartBytes
pub mod Step
pub mod Walk
