-- The laws of `permutation`.
pub mod Once
pub mod Arrays
