pub mod BothHold
pub mod Growing
pub mod Resting
pub mod Hearing
pub mod Speaking
pub mod Closed
pub mod Silent
pub mod Crossing
