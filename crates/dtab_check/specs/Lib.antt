pub mod Hidden
pub mod Indexed
pub mod Laws
pub mod Live
pub mod Notes
pub mod Rounds
pub mod Sure
pub mod Texts
