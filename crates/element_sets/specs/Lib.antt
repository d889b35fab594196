pub mod ElementSets
pub mod Loops
