-- The laws that the functions of this crate and of those above it cite.
pub mod Ways
pub mod Ranges
pub mod Every
pub mod Blanks
pub mod Numbers
pub mod First
pub mod Bits
pub mod Parts
pub mod Among
pub mod Below
pub mod Order
