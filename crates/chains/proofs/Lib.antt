pub mod Runs
pub mod Whole
pub mod Links
pub mod Vetted
pub mod Points
pub mod Ended
pub mod Alone
