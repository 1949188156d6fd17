pub mod Answers
pub mod Model
pub mod Runs
pub mod Shown
