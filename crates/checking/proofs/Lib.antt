-- The laws that the functions of this crate cite, and the promises of demands 1 and 2 about them.
pub mod Placed
pub mod CheckLaws
pub mod Told
pub mod Demand1Refusals
pub mod Demand2Acceptance
pub mod Demand2CallSign
pub mod SignLaws
pub mod PrintLaws
pub mod LegalLaws
