pub mod Bodies
pub mod Growing
pub mod Histories
pub mod Latest
pub mod Members
pub mod Progressing
pub mod Replying
