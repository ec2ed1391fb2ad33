-- The JSON of a type: one file per type.
pub mod Position
pub mod ResolutionMode
