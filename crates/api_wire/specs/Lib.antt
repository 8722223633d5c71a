pub mod Delivery
pub mod Demand
pub mod Json
pub mod Request
pub mod Response
pub mod Telling
pub mod Texts
pub mod Verbs
