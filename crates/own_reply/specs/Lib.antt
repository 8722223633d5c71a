pub mod Reply
pub mod Laws
pub mod Tests
pub mod Closing
