pub mod Finders
pub mod Match
pub mod Piece
pub mod Split
pub mod internal
