-- Definitions for contracts of private functions and for proofs.
pub mod Answer
pub mod Check
pub mod Commands
pub mod Convert
pub mod Files
pub mod Lines
pub mod Reach
pub mod Request
pub mod Run
