pub mod Writes
pub mod Used
pub mod Cases
