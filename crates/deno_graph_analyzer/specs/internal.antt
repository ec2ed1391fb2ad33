-- Definitions for the contracts of private functions, and for proofs.
pub mod LookUp
pub mod MapSources
