pub mod Heads
pub mod Trying
