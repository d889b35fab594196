pub mod Written
pub mod Givable
pub mod Fits
