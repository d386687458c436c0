-- What a reader of this crate must believe: what a well name is.

pub mod Name
