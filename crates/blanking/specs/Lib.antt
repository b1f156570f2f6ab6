pub mod Table
pub mod Timings
pub mod Room
pub mod Found
pub mod Theorems
