-- The laws of `slices`, for its proofs and for the crates above.
pub mod Bools
pub mod Agree
pub mod Parts
