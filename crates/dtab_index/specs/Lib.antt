pub mod Bits
pub mod Columns
pub mod Index
pub mod Listed
pub mod Part
pub mod Parts
pub mod Prefix
