-- What a reader of this crate must believe: what a width of a lane is.
pub mod Width
