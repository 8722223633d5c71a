pub mod Runs
pub mod Courses
pub mod Causes
pub mod Follows
pub mod Serving
pub mod Seats
