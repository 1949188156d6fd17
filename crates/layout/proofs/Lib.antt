pub mod Asked
pub mod LowestOf
