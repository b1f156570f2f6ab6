pub mod Rates
pub mod Bodies
pub mod Fits
