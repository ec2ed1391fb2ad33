-- Definitions that no contract of a public function names.
pub mod Found
pub mod MapEntries
pub mod Nodes
pub mod Parsing
