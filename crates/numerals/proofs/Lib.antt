-- The laws of spelling that the functions of this crate and of those above it cite.
pub mod Spellings
pub mod Backs
pub mod PlacedLaws
