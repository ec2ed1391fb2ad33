-- The steps of the code. No contract of a public function names them.
pub mod Reading
pub mod Braces
pub mod Cache
pub mod Pass
