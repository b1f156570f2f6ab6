pub mod More
pub mod Told
pub mod Early
pub mod Joined
pub mod Answers
pub mod Grows
pub mod Cut
