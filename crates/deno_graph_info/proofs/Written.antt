-- What is written is read back: one file per type.
pub mod Dependency
pub mod DynamicArgument
pub mod DynamicDependency
pub mod DynamicTemplatePart
pub mod ImportAttributes
pub mod JsDocImportInfo
pub mod ModuleInfo
pub mod SpecifierWithRange
pub mod StaticDependency
pub mod TypeScriptReference
