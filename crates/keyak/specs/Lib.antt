-- What a reader of this crate must believe: the record of a session at either width, and its calls by the definitions that every instance shares; Lake's and River's.
pub mod Keyak
pub mod Lake
pub mod River
