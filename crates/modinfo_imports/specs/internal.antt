-- What inner functions promise. No contract of a public function of other crates names these.
pub mod Plains
