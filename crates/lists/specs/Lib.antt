pub mod Among
pub mod Find
pub mod Over
pub mod Same
pub mod Those
