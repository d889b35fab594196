-- The worked cases, and records that are recast there and back, computed.
pub mod WorkedCases
pub mod Request13Trips
