pub mod Finding
pub mod Lengths
pub mod Rising
