pub mod Wording
pub mod Puts
