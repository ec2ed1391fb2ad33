pub mod Escape
pub mod Literal
pub mod Value
pub mod internal
