pub mod Cursor
pub mod StoredString
