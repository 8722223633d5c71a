pub mod Code
pub mod Generated
pub mod Held
pub mod Laws
pub mod Listed
pub mod World
pub mod Worlds
