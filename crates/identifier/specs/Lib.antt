pub mod Context
pub mod Laws
pub mod Local
pub mod Naming
