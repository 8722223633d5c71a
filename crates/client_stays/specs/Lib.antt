pub mod Chains
pub mod Codes
pub mod Laws
pub mod Recorded
pub mod Servers
