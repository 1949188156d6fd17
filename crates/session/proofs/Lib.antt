pub mod Answering
pub mod Making
pub mod Openings
pub mod Rest
pub mod Whole
