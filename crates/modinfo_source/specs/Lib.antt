pub mod Comments
pub mod OfText
pub mod Spelled
pub mod internal
