-- What is proved of the numbers of a dip: two's complement, the range tests in plain words, and what every value of the code's
-- types is.

pub mod Signs
pub mod Ranges
pub mod Values
