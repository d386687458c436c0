-- What a reader of this crate must believe: KECCAK-p bit by bit (Keccak), the state as a string (State), and what a call of the
-- permutation does (Permutes). Bits, Tables and Lanes are the same steps as the code has them; the proofs show that they are the same.
pub mod Keccak
pub mod Bits
pub mod Tables
pub mod Lanes
pub mod State
pub mod Permutes
