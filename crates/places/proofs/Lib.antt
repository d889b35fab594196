-- The laws that the functions of this crate and of those above it cite, and the promises of demand 3 and of requests 9, 2 and 13 about places.
pub mod PlaceLaws
pub mod Gives
pub mod DigitLaws
pub mod PlainLaws
pub mod Demand3Digits
pub mod Request9Digits
pub mod Request2Places
pub mod Request13Digits
