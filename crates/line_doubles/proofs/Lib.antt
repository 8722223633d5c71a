pub mod Links
pub mod Listed
pub mod Pieces
