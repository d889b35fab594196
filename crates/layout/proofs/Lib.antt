-- The laws of the page that the functions of this crate and of those above it cite.
pub mod Columns
pub mod LegalTexts
pub mod Elements
pub mod PartLaws
pub mod Beyond
pub mod Demand2Columns
pub mod Parts
pub mod RecordLaws
pub mod Alike
pub mod Lacking
pub mod Holding
pub mod Finds
pub mod Table
