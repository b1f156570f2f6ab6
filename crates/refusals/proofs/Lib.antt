mod Apart
mod First
pub mod Tests
pub mod Told
