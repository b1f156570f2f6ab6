pub mod Columns
pub mod Whole
pub mod Apart
pub mod Masks
