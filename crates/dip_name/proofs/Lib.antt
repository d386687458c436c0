-- What is proved of a well name: the test in plain words; and how its code tells one.
pub mod Named
pub mod Front
