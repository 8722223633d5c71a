pub mod Absorbing
pub mod Choosing
pub mod Decides
pub mod Known
pub mod Listing
pub mod Sounds
pub mod Within
