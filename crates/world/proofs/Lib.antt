-- The law of digits that `agrees` cites.
pub mod Digits
