pub mod Frames
pub mod Audio
pub mod Named
pub mod Numbered
pub mod Answers
pub mod Theorems
pub mod Editions
