pub mod Commanded
pub mod Yielded
pub mod Numbered
pub mod Progress
pub mod Splits
