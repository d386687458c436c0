-- What a reader of this crate must believe: what a count is, and what the code's rates are to be.
pub mod Counts
