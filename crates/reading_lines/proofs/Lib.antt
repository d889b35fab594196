-- The laws of the lines that readings says, and the promises about what it says of a record.
pub mod LineLaws
pub mod BackLaws
pub mod ReadTold
pub mod Demand2Told
