mod Digits
mod Complete
mod Sound
mod Steps
mod Reading
mod Chains
mod Values
mod PlainTexts
mod Compared
pub mod Decided
