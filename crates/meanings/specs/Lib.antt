pub mod Meaning
pub mod Kept
pub mod Lost
