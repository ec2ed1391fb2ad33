pub mod Characters
pub mod JsDocGrammar
pub mod JsDocImport
pub mod JsDocImports
pub mod internal
