pub mod Clearing
pub mod Forms
pub mod Pieces
pub mod Sounds
pub mod Tables
