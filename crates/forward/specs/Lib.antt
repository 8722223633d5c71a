pub mod Dropped
pub mod Forwarded
pub mod Listed
pub mod Kept
pub mod Returned
pub mod Laws
