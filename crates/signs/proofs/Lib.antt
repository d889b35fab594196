-- The laws of signed numbers that the crates above cite.
pub mod Signs
