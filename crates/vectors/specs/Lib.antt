-- The marks around a lent buffer, and what is left of a line behind its first word.
pub mod Mark
pub mod Line
