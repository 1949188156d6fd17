pub mod Lent
pub mod Opening
pub mod Running
pub mod Session
pub mod Shown
