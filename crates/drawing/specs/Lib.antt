pub mod Layout
pub mod Meaning
pub mod Opening
pub mod Stored
