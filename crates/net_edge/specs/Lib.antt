pub mod Pools
pub mod Sockets
