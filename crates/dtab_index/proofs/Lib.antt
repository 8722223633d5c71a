pub mod Filing
pub mod Known
pub mod Listed
pub mod Matches
pub mod PartLists
pub mod Rows
pub mod WordBits
