-- The laws that the functions of this crate cite.
pub mod Blanked
pub mod Table
pub mod Filled
pub mod Steps
pub mod Lost
pub mod RowLaws
pub mod NameLaws
pub mod LossLaws
