pub mod Prefixes
pub mod Adding
pub mod Steps
pub mod Options
pub mod Readers
pub mod Uses
pub mod Crossing
