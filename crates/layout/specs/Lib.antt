pub mod Bytes
pub mod Lowest
pub mod Questions
pub mod Refusals
