pub mod Exact
pub mod Hash
pub mod Json
pub mod Lines
pub mod Numbers
pub mod Words
