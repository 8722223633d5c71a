mod Carrying
pub mod Crossing
mod Doing
mod Feeding
mod Forms
mod Requesting
mod Seeing
pub mod Staying
mod Turning
