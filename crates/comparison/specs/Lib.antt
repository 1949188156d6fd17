pub mod Calls
pub mod Histories
pub mod Loading
pub mod Settings
