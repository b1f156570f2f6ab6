pub mod Kinds
pub mod Wiring
pub mod Tests
pub mod Named
pub mod Theorems
