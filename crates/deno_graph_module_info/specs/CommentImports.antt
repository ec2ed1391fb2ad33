-- The list of the imports in the JSDoc comments of a source.
use Rattle.std.specs.Prelude.{◌≡◌, ◌<◌, ◌≤◌, ◌+◌, ◌-◌, ◌⊎◌, ◌↔◌, ℕ, Bool, true, false, List, ◌++◌, codes}
use Rattle.std.specs.Prelude.{encode_utf8_all}
use Rattle.std.specs.List.{AllPairs, Contains}
use Rattle.std.specs.Str.{IsCharBoundary, chars}
use Rattle.deno_graph_jsdoc.specs.JsDocImports.{IsImportIn}
use Rattle.deno_graph_jsdoc.specs.JsDocImport.{Import, moved}
use Rattle.deno_graph_source.specs.Source.{SharesByte}
use Rattle.deno_graph_source.specs.declared.tree.comments.CommentKind.TheVariants.{Block}
use Rattle.deno_graph_source.specs.declared.tree.comments.DependencyComment.{DependencyComment}
use Rattle.deno_graph_source.specs.declared.tree.media_type.MediaType.{MediaType}
use Rattle.deno_graph_source.specs.declared.tree.media_type.MediaType.TheVariants.{JavaScript, Jsx, Mjs, Cjs}
use Rattle.deno_graph_base.specs.SourceRange.{slice_of}
use Rattle.deno_graph_base.specs.declared.text.position.SourceRange.{SourceRange}

-- whether JSDoc imports are read in files of this type
abbrev pub reads_jsdoc : MediaType → Bool
reads_jsdoc JavaScript = true
reads_jsdoc Jsx = true
reads_jsdoc Mjs = true
reads_jsdoc Cjs = true
reads_jsdoc _ = false

-- two comments that share a byte are equal
abbrev pub AreApart : List DependencyComment → Type 0
AreApart comments =
    (a b : DependencyComment) → Contains comments a → Contains comments b → SharesByte a.range b.range → a ≡ b

-- a JSDoc comment: a block comment whose text begins with `*`
abbrev pub IsJsDoc : DependencyComment → Type 0
IsJsDoc comment = (comment.kind ≡ Block) × ((rest : List ℕ) × (comment.text ≡ codes "*" ++ rest))

-- an import in the text of a JSDoc comment; the offsets of `import` count from the start of the source,
-- those of `inner` from the start of the text, which is after the two bytes `/*`
pub record IsImportOf (comment : DependencyComment) (import : Import) : Type 0 where
  pub jsdoc : IsJsDoc comment
  pub inner : Import
  pub is_inner : IsImportIn (chars comment.text) inner
  pub is_moved : import ≡ moved (comment.range.start + 2) inner

-- the list has exactly the imports in the comments, and their starts strictly ascend
pub record AreImports (comments : List DependencyComment) (imports : List Import) : Type 0 where
  pub ascending : AllPairs (λ (import later : Import). import.start < later.start) imports
  pub exact : (import : Import)
      → Contains imports import
      ↔ ((comment : DependencyComment) × Contains comments comment × IsImportOf comment import)

-- the range of the specifier of an import with its two quotes
abbrev pub quoted_range : Import → SourceRange
quoted_range import = record { start = import.start - 1; end = import.end + 1 }

-- the text has the specifier of `import` at its range, between two equal quotes
pub record IsQuotedAt (text : List ℕ) (import : Import) : Type 0 where
  pub some : 0 < import.start
  pub ordered : import.start ≤ import.end
  pub start : IsCharBoundary text (import.start - 1)
  pub end : IsCharBoundary text (import.end + 1)
  pub quoted : (slice_of text (quoted_range import) ≡ codes "\"" ++ encode_utf8_all import.specifier
      ++ codes "\"")
      ⊎ (slice_of text (quoted_range import) ≡ codes "'" ++ encode_utf8_all import.specifier ++ codes "'")
