pub mod Closings
pub mod Laws
pub mod Lists
pub mod Pigeons
