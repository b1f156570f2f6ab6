pub mod Numbered
pub mod Line
pub mod Verdict
pub mod Words
pub mod Code
