pub mod Counting
pub mod Seen
pub mod Status
pub mod Watching
