-- What a reader of this crate must believe: ranges, and signed numbers in 32 bits.

pub mod Numbers
