pub mod Answers
pub mod Joining
pub mod Parts
pub mod Meaning
pub mod Sides
pub mod StepPairs
