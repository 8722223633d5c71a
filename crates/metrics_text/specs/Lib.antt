pub mod Classes
pub mod Format
pub mod Metrics
