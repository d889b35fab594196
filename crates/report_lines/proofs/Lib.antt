-- The laws of the lines that more than one report has.
pub mod SignLine
