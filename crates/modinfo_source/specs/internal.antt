-- What inner functions promise. No contract of a public function names these.
pub mod Filed
pub mod OpenNodes
pub mod Parts
