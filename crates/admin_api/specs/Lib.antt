pub mod Demand
pub mod Metrics
