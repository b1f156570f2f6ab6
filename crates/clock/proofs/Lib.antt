pub mod Rates
pub mod Columns
pub mod Range
pub mod Exactness
pub mod Offered
pub mod Coherence
pub mod Told
pub mod Rows
