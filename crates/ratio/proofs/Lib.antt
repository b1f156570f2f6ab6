pub mod Divisor
pub mod Halving
pub mod Multiples
pub mod Sizes
pub mod Unique
