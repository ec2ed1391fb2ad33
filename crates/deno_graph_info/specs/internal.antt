-- Definitions that no contract of a public function names.
pub mod Chosen
pub mod ConvertFault
pub mod Ordered
pub mod ReachSteps
pub mod Written
