pub mod Connections
pub mod Laws
pub mod Publishing
pub mod Recording
