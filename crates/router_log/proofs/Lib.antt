pub mod Places
pub mod Publishing
pub mod Right
pub mod Taking
pub mod Ties
