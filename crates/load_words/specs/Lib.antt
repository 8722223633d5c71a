pub mod Counting
pub mod Seats
