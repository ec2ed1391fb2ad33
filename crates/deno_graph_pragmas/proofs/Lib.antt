mod Attributes
mod Barriers
pub mod Captured
mod Folding
mod Found
mod Lines
mod ReadPieces
mod References
mod Runs
pub mod SomeSplit
mod Splits
mod TextSteps
