-- The contract of every reader.
pub mod Error
pub mod Expected
pub mod Names
pub mod Partial
pub mod Result
