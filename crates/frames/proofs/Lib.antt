pub mod Total
pub mod Sealed
pub mod Small
pub mod Refused
pub mod Named
pub mod Readers
