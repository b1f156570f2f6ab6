pub mod Cells
pub mod Timed
pub mod Standard
pub mod Rule
