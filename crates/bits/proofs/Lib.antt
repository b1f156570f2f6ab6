pub mod Below
pub mod Truth
pub mod Laws
pub mod Fields
