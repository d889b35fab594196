-- The calendar's own promises, and the laws that the crates above cite.
pub mod Lengths
pub mod Request3Calendar
