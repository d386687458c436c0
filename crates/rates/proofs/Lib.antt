-- The laws of `rates`, for its proofs.
pub mod Lanes
