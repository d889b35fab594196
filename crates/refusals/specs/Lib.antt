pub mod Refusals
pub mod Verdicts
pub mod Lent
