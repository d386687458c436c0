-- What a byte by a pattern is.
pub mod Byte
