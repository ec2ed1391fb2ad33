pub mod JsString
pub mod Position
pub mod PositionRange
pub mod ResolutionMode
pub mod SourceRange
pub mod TextMap
pub mod formers
pub mod internal
