pub mod Accepts
pub mod Clocks
pub mod Counts
pub mod Dials
pub mod Files
pub mod Lines
pub mod Nets
pub mod Streams
