-- What each answer of the check leads to, and that a line too long for a record is refused.
pub mod CheckTold
