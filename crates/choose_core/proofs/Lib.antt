pub mod Branches
pub mod Drawing
pub mod Equals
pub mod Finding
pub mod Nearing
pub mod Passing
pub mod Telling
pub mod Ways
