pub mod Analyses
pub mod CaptureCases
pub mod Captured
pub mod Replies
pub mod StoredSources
pub mod WholeRuns
