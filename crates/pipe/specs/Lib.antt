pub mod Numbered
pub mod Final
pub mod Bytes
pub mod Found
pub mod Pipe
pub mod Cases
