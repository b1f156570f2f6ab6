pub mod Numbered
pub mod Places
pub mod Wanted
pub mod Plan
pub mod Rules
pub mod Another
