-- The laws of `piston`, for its proofs and for the crates above.
pub mod Block
pub mod Lane
pub mod Room
pub mod Turns
pub mod Xors
