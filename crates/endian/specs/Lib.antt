-- What a reader of this crate must believe: how a number stands as bytes, and what a string of bytes is.
pub mod Little
pub mod Small
