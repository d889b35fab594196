pub mod Editions
pub mod Page
pub mod Records
