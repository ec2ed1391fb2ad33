-- The steps of the code. No contract of a public function names them.
pub mod Step
pub mod Read
pub mod Plain
