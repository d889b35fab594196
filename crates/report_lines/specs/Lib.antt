pub mod Sentences
pub mod Says
