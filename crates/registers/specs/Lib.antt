pub mod ByColumns
pub mod Classes
pub mod Field
pub mod Fields
pub mod Precedence
pub mod Rows
pub mod Table14
