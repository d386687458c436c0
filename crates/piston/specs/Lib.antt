-- What a reader of this crate must believe: one definition.
pub mod Placed
