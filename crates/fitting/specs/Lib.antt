pub mod Bisimilarity
pub mod Covering
pub mod Judging
pub mod Numbers
