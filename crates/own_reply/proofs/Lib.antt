pub mod Joined
pub mod Read
pub mod Testing
