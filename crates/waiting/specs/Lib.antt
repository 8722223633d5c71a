pub mod Waiting
pub mod Leaving
pub mod Hands
pub mod Runs
