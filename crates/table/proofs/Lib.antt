pub mod Meant
pub mod Reading
pub mod Targets
