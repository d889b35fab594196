pub mod Spelled
pub mod Same
