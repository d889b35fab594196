-- The laws that the functions of this crate cite, and the promises of demands 1 and 2 and of request 2 about writing.
pub mod WriteLaws
pub mod EachLaws
pub mod DoneLaws
pub mod Demand1Outcomes
pub mod Demand1Numbers
pub mod Demand2Written
pub mod Demand2Back
pub mod Demand2Ties
pub mod Demand2TiesBroken
pub mod GivableLaws
pub mod Demand2Refused
pub mod Request2Written
