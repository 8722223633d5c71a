pub mod Call
pub mod Codes
pub mod Laws
pub mod Operation
pub mod Taking
pub mod Value
