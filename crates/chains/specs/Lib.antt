pub mod Chain
pub mod Theorems
pub mod Below
