-- Definitions for contracts of private functions and for proofs.
pub mod Comments
pub mod Document
pub mod Lookup
pub mod ReportText
pub mod Token
pub mod Warned
