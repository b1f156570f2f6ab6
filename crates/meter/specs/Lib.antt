pub mod Nearest
pub mod Numbers
pub mod Numbered
pub mod Found
pub mod Meter
pub mod Cases
