-- A step done over and over, and the calls of Lake and River as such steps.
pub mod Repeat
pub mod Lent
pub mod Over
