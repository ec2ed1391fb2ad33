-- Definitions of the code's steps, which no contract of a public function names.
pub mod AttributeSteps
pub mod CallSteps
pub mod ListingPaths
pub mod Stack
pub mod WalkSteps
