pub mod Coverage
pub mod Depths
pub mod Scans
pub mod Verdicts
