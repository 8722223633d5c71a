pub mod Beginning
pub mod Sums
pub mod Turning
