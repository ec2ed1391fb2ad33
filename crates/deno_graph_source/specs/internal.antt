pub mod ByOffset
pub mod Check
pub mod Finding
pub mod MediaType
