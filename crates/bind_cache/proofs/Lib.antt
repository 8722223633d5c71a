pub mod Caches
pub mod Chaining
pub mod Fronts
pub mod Finding
pub mod Hashing
pub mod Turning
pub mod Same
pub mod Staying
