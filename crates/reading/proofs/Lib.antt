-- The laws of readings that the functions of this crate and of those above it cite, and the promises of demand 2 and of requests 2 and 6.
pub mod ReadingLaws
pub mod ColumnLaws
pub mod EntryLaws
pub mod Demand2Readings
pub mod Request2Readings
pub mod Request6Readings
