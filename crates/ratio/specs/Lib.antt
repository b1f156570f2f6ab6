pub mod Terms
pub mod Lowest
