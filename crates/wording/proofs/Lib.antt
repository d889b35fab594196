-- The laws of putting texts and numbers that the functions of this crate and of those above it cite.
pub mod PutLaws
pub mod WordingLaws
