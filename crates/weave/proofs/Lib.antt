pub mod Asking
pub mod Keeping
pub mod Moving
pub mod Picking
pub mod Results
pub mod Schedules
pub mod Steps
pub mod Weaving
