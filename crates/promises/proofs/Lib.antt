-- The demands by name, at Lake and at River; Zeros is what both need of their constructors.
pub mod Lake
pub mod River
pub mod Zeros
