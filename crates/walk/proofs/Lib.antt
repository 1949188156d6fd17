pub mod Absent
pub mod Reaching
pub mod Sets
pub mod Ways
