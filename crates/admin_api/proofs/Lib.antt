mod Addrs
mod Paths
mod Scraped
pub mod Sounds
