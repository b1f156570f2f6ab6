pub mod Digits
pub mod Stored
pub mod Given
pub mod Told
