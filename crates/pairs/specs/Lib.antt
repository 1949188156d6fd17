pub mod Listing
pub mod Opened
pub mod PairFile
pub mod Pairs
pub mod Placing
pub mod Writing
