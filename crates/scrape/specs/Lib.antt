pub mod Counts
pub mod Scrapes
pub mod Sums
