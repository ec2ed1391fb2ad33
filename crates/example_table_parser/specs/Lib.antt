pub mod Table
pub mod TableParser
