-- The laws of KECCAK-p, over every width: what the definitions say in the words of 003, and that the code's lanes and bytes are what they define.
pub mod Bits
pub mod Lanes
pub mod Tables
pub mod Steps
pub mod Rounds
pub mod Rules
pub mod State
pub mod Answers
