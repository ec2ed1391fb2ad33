-- The results of the functions that find pragmas at the head of a module.
use Rattle.std.specs.Prelude.{◌≡◌, ℕ, Bool, true, false, List, IsTrue}
use Rattle.deno_graph_source.specs.declared.tree.comments.CommentKind.TheVariants.{Block}
use Rattle.deno_graph_source.specs.declared.tree.comments.DependencyComment.{DependencyComment}
use Rattle.deno_graph_info.specs.declared.analysis.specifier_with_range.SpecifierWithRange.{SpecifierWithRange}
use Rattle.deno_graph_pragmas.specs.Split.{TextPart, IsCaptured, IsSliceOf, IsInQuotes}
use Rattle.deno_graph_module_info.specs.declared.head_pragmas.HeadPragma.{HeadPragma}
use Rattle.deno_graph_module_info.specs.declared.head_pragmas.HeadPragma.TheVariants.{TsSelfTypes}
use Rattle.deno_graph_module_info.specs.declared.head_pragmas.HeadPragma.TheVariants.{JsxImportSource}
use Rattle.deno_graph_module_info.specs.declared.head_pragmas.HeadPragma.TheVariants.{JsxImportSourceTypes}
use Rattle.deno_graph_module_info.specs.Spelled.{CoversBare, CoversQuoted}
use Rattle.deno_graph_module_info.specs.Pragma.{Pragma, self_types_pragma, jsx_import_source_pragma}
use Rattle.deno_graph_module_info.specs.Pragma.{jsx_import_source_types_pragma}

-- the range covers the specifier in the source, with its quotes if it is quoted
abbrev pub Covers : List ℕ → Bool → SpecifierWithRange → Type 0
Covers source true specifier = CoversBare source specifier
Covers source false specifier = CoversQuoted source specifier

-- the part is the specifier of the pragma in a comment in which the pragma counts
pub record IsMatch (pragma : Pragma) (comment : DependencyComment) (part : TextPart) : Type 0 where
  pub kind : IsTrue pragma.is_in_blocks_alone → comment.kind ≡ Block
  pub is_captured : IsCaptured pragma.pattern comment.text part
  pub is_slice : IsSliceOf comment.text part
  pub quotes : pragma.is_quoteless ≡ false → IsInQuotes comment.text part

-- the definition of a pragma that is read at the head of a module
abbrev pub head_pragma : HeadPragma → Pragma
head_pragma TsSelfTypes = self_types_pragma
head_pragma JsxImportSource = jsx_import_source_pragma
head_pragma JsxImportSourceTypes = jsx_import_source_types_pragma
