pub mod Contents
pub mod Namespace
pub mod Refusal
pub mod Spaces
pub mod Store
pub mod Versions
