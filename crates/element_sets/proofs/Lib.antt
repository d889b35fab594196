-- The laws that the functions of this crate and of those above it cite.
pub mod Ways
pub mod Words
pub mod Listed
pub mod WordElements
pub mod BelowLaws
pub mod Demand3Losses
pub mod Joined
