pub mod Cooked
pub mod FiledComments
pub mod OfTexts
pub mod PartPieces
pub mod SpelledNodes
