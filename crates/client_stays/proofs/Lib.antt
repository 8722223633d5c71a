pub mod Chaining
pub mod Crossing
mod Learning
