-- What is proved of the header.
-- What the definitions say: the exact condition of every answer, by the rules and in words, and what a series is.

pub mod Exactly
pub mod InWords
pub mod OneSeries
-- There and back, over what the calls answer; and that each contract has one outcome.
pub mod Typed
pub mod HeaderTrip
pub mod Once
-- A step of a function's proof.
pub mod Written
pub mod Outcomes
