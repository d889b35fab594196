-- The law of bytes counted around the end of all bytes.
pub mod Rounds
