pub mod Calendar
pub mod Ending
pub mod Line
pub mod Moments
pub mod Shown
