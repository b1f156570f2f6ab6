pub mod Face
pub mod Machine
pub mod Matrices
pub mod Pipe
pub mod Screen
pub mod Vet
