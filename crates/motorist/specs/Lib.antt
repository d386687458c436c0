-- What a reader of this crate must believe: Keyak v2 in document 003's own layers, over an instance and any permutation f of the state's bytes.
-- In order: Instance, Piston, Engine, Motorist, Session; then Keyak, which names f; Examples, which are computed; Reader; and the words of theorems
-- and of the code's contracts, Counts, Runs, Shape and Rode.
pub mod Counts
pub mod Engine
pub mod Examples
pub mod Instance
pub mod Keyak
pub mod Motorist
pub mod Piston
pub mod Reader
pub mod Rode
pub mod Runs
pub mod Session
pub mod Shape
