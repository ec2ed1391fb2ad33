pub mod PastEnds
pub mod Reached
pub mod LineEnds
pub mod Tables
pub mod Narrow
pub mod Filings
pub mod WordLengths
