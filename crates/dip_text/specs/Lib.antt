-- What the crate's contracts cite.
pub mod Bounds
pub mod Troubles
