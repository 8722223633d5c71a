pub mod Arrays
pub mod Chains
pub mod Finds
pub mod Halves
pub mod Loads
pub mod Names
pub mod Trees
