pub mod Found
pub mod Joined
pub mod Named
pub mod CanonBytes
pub mod Written
