pub mod Crossing
pub mod Keeping
