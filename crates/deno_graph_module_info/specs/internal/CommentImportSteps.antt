-- The steps by which the imports in comments are collected, one comment after another.
use Rattle.std.specs.Prelude.{◌≡◌, ◌<◌, ◌+◌, ◌⊎◌, ◌↔◌, List}
use Rattle.std.specs.List.{AllPairs, Contains}
use Rattle.std.specs.Str.{chars}
use Rattle.deno_graph_jsdoc.specs.JsDocImports.{IsImportIn}
use Rattle.deno_graph_jsdoc.specs.JsDocImport.{Import, moved}
use Rattle.deno_graph_source.specs.declared.tree.comments.DependencyComment.{DependencyComment}
use Rattle.deno_graph_module_info.specs.CommentImports.{IsJsDoc}

-- `chosen` has exactly the JSDoc comments of `comments`
abbrev pub AreJsDocOf : List DependencyComment → List DependencyComment → Type 0
AreJsDocOf comments chosen = (comment : DependencyComment)
    → Contains chosen comment ↔ (Contains comments comment × IsJsDoc comment)

-- `import` is an import in the text of the comment, with offsets from the start of the source
abbrev pub IsMovedImport : DependencyComment → Import → Type 0
IsMovedImport comment import =
    (inner : Import) × IsImportIn (chars comment.text) inner
    × (import ≡ moved (comment.range.start + 2) inner)

-- the new list has the imports of the old list and those with the property `P`, in ascending order; of
-- imports with the same start it may have only one
pub record GainsImports (old : List Import) (P : Import → Type 0) (new : List Import) : Type 0 where
  pub ascending : AllPairs (λ (import later : Import). import.start < later.start) new
  pub only : (import : Import) → Contains new import → Contains old import ⊎ P import
  pub kept : (import : Import) → Contains old import → Contains new import
  pub there : (import : Import) → P import
      → (other : Import) × Contains new other × (other.start ≡ import.start)
