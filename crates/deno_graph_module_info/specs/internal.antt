pub mod CommentImportSteps
pub mod HeadPragma
pub mod ReadTypes
pub mod ScriptSteps
