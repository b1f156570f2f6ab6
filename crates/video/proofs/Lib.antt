pub mod Listed
pub mod Bodies
pub mod Fits
pub mod Alike
