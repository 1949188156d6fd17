pub mod Nexts
pub mod Tables
