-- The laws of spelling readings and of comparing two that the functions of this crate and of those above it cite.
pub mod SpellLaws
pub mod RowLaws
pub mod RecordLaws
pub mod SameLaws
pub mod BackLaws
pub mod ElementLaws
pub mod GivenLaws
