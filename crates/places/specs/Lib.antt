pub mod Places
pub mod Column12
pub mod Plain
