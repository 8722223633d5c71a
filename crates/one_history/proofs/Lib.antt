pub mod Facts
pub mod Growing
pub mod Owning
pub mod Turning
