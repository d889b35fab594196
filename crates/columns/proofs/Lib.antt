-- The laws of the tables, and how columns are put together.
pub mod Bonds
pub mod Cells
pub mod Ranges
