pub mod Numbered
pub mod Order
pub mod Screen
pub mod Wish
pub mod Found
pub mod Code
pub mod Theorems
pub mod Cases
