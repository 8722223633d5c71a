pub mod Figures
pub mod Laws
pub mod Tallies
pub mod Worth
