-- The laws of the run that the functions cite, and the promises about the report of a whole input.
pub mod CutLaws
pub mod RunLaws
pub mod TellLaws
pub mod KeepLaws
pub mod FinishLaws
pub mod EndLaws
pub mod FeedLaws
pub mod Demand2Run
pub mod ReportCases
