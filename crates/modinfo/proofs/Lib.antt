mod CommandWords
mod EncodedBytes
pub mod Faults
mod LinesSplit
mod LinesTaken
mod FilesPrinted
mod GivenWords
pub mod Modules
mod Outputs
mod Texts
pub mod StoredOverflow
pub mod Written
