pub mod Courses
pub mod Follow
pub mod Linked
pub mod Outside
pub mod Recorded
pub mod Run
pub mod Served
pub mod Told
