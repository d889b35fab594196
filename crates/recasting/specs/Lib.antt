pub mod Recast
pub mod Fits
