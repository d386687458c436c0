-- What bytes are in hexadecimal.
pub mod Hex
