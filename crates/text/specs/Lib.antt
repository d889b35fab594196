pub mod Bytes
pub mod LegalTexts
pub mod First
