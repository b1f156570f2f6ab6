pub mod Modes
pub mod Video
pub mod Body
pub mod Tests
pub mod Fits
pub mod Exception
