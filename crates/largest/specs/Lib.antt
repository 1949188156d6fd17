pub mod Finding
pub mod Rounds
pub mod Sweeping
