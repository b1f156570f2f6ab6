pub mod Numbered
pub mod Ends
pub mod Extract
pub mod Decode
pub mod Theorems
pub mod ReadBack
pub mod Writer
