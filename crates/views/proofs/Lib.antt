pub mod Seen
pub mod Used
pub mod Lent
pub mod Shown
pub mod Cases
