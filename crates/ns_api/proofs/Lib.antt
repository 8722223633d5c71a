mod Prefixes
mod Rows
mod Trees
mod Values
pub mod Sounds
mod Paths
