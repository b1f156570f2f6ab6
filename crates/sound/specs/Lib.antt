pub mod Rates
pub mod Sound
pub mod Tests
pub mod Coded
pub mod Fits
pub mod Theorems
