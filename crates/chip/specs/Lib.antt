pub mod Machine
pub mod Groups
pub mod Numbered
pub mod Write
pub mod Step
pub mod Turn
pub mod Cases
