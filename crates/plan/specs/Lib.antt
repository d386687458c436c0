-- What a reader of this crate must believe: how far the next block goes, and what a start injects.
pub mod Cut
pub mod Start
