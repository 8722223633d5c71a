pub mod Adding
pub mod Chain
pub mod Lines
pub mod Moving
pub mod Steps
pub mod Storing
