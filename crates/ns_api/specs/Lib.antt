pub mod Demand
pub mod JsonTable
