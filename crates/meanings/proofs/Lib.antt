-- The laws of meanings that demand 3 cites.
pub mod KeepLaws
pub mod SenseLaws
