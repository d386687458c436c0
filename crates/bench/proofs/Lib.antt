-- The law of a repeated step.
pub mod Turns
