-- Why a glance that finds nothing wrong is right.
pub mod Wides
pub mod Lawful
pub mod MonthDays
pub mod Tied
pub mod Sound
