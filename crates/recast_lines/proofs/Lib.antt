-- The laws of the lines of the recast report.
pub mod LostLaws
pub mod LongLaws
