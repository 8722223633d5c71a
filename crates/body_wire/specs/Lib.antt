pub mod Bodies
pub mod Chunks
pub mod Passing
pub mod Pieces
pub mod Places
pub mod Stands
pub mod Turns
