-- What C finds after one call of Lake and of River.
pub mod Once
