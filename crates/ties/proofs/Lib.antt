-- The laws of the ties that the functions of this crate and of those above it cite.
pub mod TieLaws
pub mod Together
pub mod Looks
pub mod Days
pub mod Request3Days
