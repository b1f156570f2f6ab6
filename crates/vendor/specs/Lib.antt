pub mod Numbered
pub mod Vendor
pub mod Found
pub mod Theorems
