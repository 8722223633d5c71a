pub mod Check
pub mod Found
pub mod Generated
pub mod Lint
pub mod Words
