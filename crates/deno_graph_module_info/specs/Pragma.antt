-- Pragmas in comments, and the specifiers that the pragmas name.
use Rattle.std.specs.Prelude.{◌≡◌, ℕ, ◌+◌, ◌-◌, Bool, true, false, List, [], ◌∷◌, ◌++◌, All, IsTrue, Option}
use Rattle.std.specs.Prelude.{Some, None, slice_get, length, if◌then◌else◌}
use Rattle.deno_graph_source.specs.MediaType.{is_typed}
use Rattle.deno_graph_base.specs.Position.{position_at}
use Rattle.deno_graph_base.specs.declared.text.position.PositionRange.{PositionRange}
use Rattle.deno_graph_base.specs.declared.text.position.SourceRange.{SourceRange}
use Rattle.deno_graph_source.specs.declared.tree.comments.CommentKind.TheVariants.{Block}
use Rattle.deno_graph_source.specs.declared.tree.comments.DependencyComment.{DependencyComment}
use Rattle.deno_graph_source.specs.declared.tree.media_type.MediaType.{MediaType}
use Rattle.deno_graph_source.specs.declared.tree.media_type.MediaType.TheVariants.{Jsx, Tsx}
use Rattle.deno_graph_info.specs.declared.analysis.specifier_with_range.SpecifierWithRange.{SpecifierWithRange}
use Rattle.deno_graph_pragmas.specs.Finders as finder
use Rattle.deno_graph_pragmas.specs.Split.{Pattern, TextPart, HasSplit, IsCaptured}

-- A pragma: the pattern of the texts that have the pragma, whether the pragma counts only in block
-- comments, and whether its specifier has no quotes.
pub record Pragma : Type 0 where
  pub pattern : Pattern
  pub is_in_blocks_alone : Bool
  pub is_quoteless : Bool

abbrev pub quoted : Pattern → Pragma
quoted pattern = record { pattern = pattern; is_in_blocks_alone = false; is_quoteless = false }

abbrev pub quoteless : Pattern → Pragma
quoteless pattern = record { pattern = pattern; is_in_blocks_alone = false; is_quoteless = true }

abbrev pub quoteless_in_blocks : Pattern → Pragma
quoteless_in_blocks pattern =
    record { pattern = pattern; is_in_blocks_alone = true; is_quoteless = true }

abbrev pub self_types_pragma : Pragma
self_types_pragma = quoted finder.ts_self_types_pattern

abbrev pub jsx_import_source_pragma : Pragma
jsx_import_source_pragma = quoteless_in_blocks finder.jsx_import_source_pattern

abbrev pub jsx_import_source_types_pragma : Pragma
jsx_import_source_types_pragma = quoteless_in_blocks finder.jsx_import_source_types_pattern

abbrev pub source_mapping_url_pragma : Pragma
source_mapping_url_pragma = quoteless finder.source_mapping_url_pattern

-- the pragmas that name the types of a dependency: if a comment has several, the first counts
abbrev pub dependency_types_pragmas : List Pragma
dependency_types_pragmas =
    quoted finder.ts_types_pattern ∷ quoted finder.deno_types_pattern
    ∷ quoteless finder.quoteless_deno_types_pattern ∷ []

-- the comment has the pragma, and is of a kind in which the pragma counts
pub record HasPragma (pragma : Pragma) (comment : DependencyComment) : Type 0 where
  pub kind : IsTrue pragma.is_in_blocks_alone → comment.kind ≡ Block
  pub split : HasSplit pragma.pattern comment.text

-- the number of quotes that a range includes on each side
abbrev pub quotes_beside : Bool → ℕ
quotes_beside is_quoteless = if is_quoteless then 0 else 1

-- The range in the source of a part of a comment's text, with its quotes. The text begins two bytes
-- after the comment's start.
abbrev pub range_in_source : ℕ → ℕ → ℕ → Bool → SourceRange
range_in_source comment_start start end is_quoteless = record {
  start = comment_start + 2 + start - quotes_beside is_quoteless;
  end = comment_start + 2 + end + quotes_beside is_quoteless;
}

-- a range of the text by positions
abbrev pub positions_of : List ℕ → SourceRange → PositionRange
positions_of source range =
    record { start = position_at source range.start; end = position_at source range.end }

-- a part of a comment's text as a specifier
abbrev pub specifier_of_part : List ℕ → DependencyComment → TextPart → Bool → SpecifierWithRange
specifier_of_part source comment part is_quoteless = record {
  text = part.text;
  range =
      positions_of source (range_in_source comment.range.start part.start part.end is_quoteless);
}

-- the pragma in the comment names this specifier
pub record Names (source : List ℕ) (pragma : Pragma)
    (comment : DependencyComment) (specifier : SpecifierWithRange) : Type 0 where
  pub part : TextPart
  pub is_captured : IsCaptured pragma.pattern comment.text part
  pub is_specifier : specifier ≡ specifier_of_part source comment part pragma.is_quoteless

-- `x` is the first element of the list that has the property
pub record IsFirstWith {X : Type 0} (P : X → Type 0) (xs : List X) (x : X) : Type 0 where
  pub before : List X
  pub after : List X
  pub whole : xs ≡ before ++ x ∷ after
  pub none_before : All (λ y. ¬ P y) before
  pub has : P x

-- `x` is the last element of the list that has the property
pub record IsLastWith {X : Type 0} (P : X → Type 0) (xs : List X) (x : X) : Type 0 where
  pub before : List X
  pub after : List X
  pub whole : xs ≡ before ++ x ∷ after
  pub none_after : All (λ y. ¬ P y) after
  pub has : P x

-- the specifier is that of the first comment that has the pragma; there is none exactly if no comment
-- has the pragma
abbrev pub NamesFirst :
    List ℕ → Pragma → List DependencyComment → Option SpecifierWithRange → Type 0
NamesFirst source pragma comments None = All (λ comment. ¬ HasPragma pragma comment) comments
NamesFirst source pragma comments (Some specifier) =
    (comment : DependencyComment) × IsFirstWith (HasPragma pragma) comments comment
    × Names source pragma comment specifier

-- the specifier is that of the last comment that has the pragma; there is none exactly if no comment
-- has the pragma
abbrev pub NamesLast : List ℕ → Pragma → List DependencyComment → Option SpecifierWithRange → Type 0
NamesLast source pragma comments None = All (λ comment. ¬ HasPragma pragma comment) comments
NamesLast source pragma comments (Some specifier) =
    (comment : DependencyComment) × IsLastWith (HasPragma pragma) comments comment
    × Names source pragma comment specifier

-- the specifier is that of the first of the pragmas that the comment has; there is none exactly if the
-- comment has none of the pragmas
abbrev pub NamesByFirst :
    List ℕ → List Pragma → DependencyComment → Option SpecifierWithRange → Type 0
NamesByFirst source pragmas comment None = All (λ pragma. ¬ HasPragma pragma comment) pragmas
NamesByFirst source pragmas comment (Some specifier) =
    (pragma : Pragma) × IsFirstWith (λ p. HasPragma p comment) pragmas pragma
    × Names source pragma comment specifier

-- the specifier is that of the types that a comment names for the dependency after the comment
abbrev pub NamesDependencyTypesIn : List ℕ → Option DependencyComment → Option SpecifierWithRange → Type 0
NamesDependencyTypesIn source None specifier = specifier ≡ None
NamesDependencyTypesIn source (Some comment) specifier =
    NamesByFirst source dependency_types_pragmas comment specifier

-- the specifier is that of the types that the last of the comments before a dependency names
abbrev pub NamesDependencyTypes : List ℕ → List DependencyComment → Option SpecifierWithRange → Type 0
NamesDependencyTypes source comments specifier =
    NamesDependencyTypesIn source (slice_get comments (length comments - 1)) specifier

-- the comments that may name the module's own types: none in a file that holds types
abbrev pub comments_for_types : MediaType → List DependencyComment → List DependencyComment
comments_for_types media_type comments = if is_typed media_type then [] else comments

-- whether files of this type have JSX
abbrev pub has_jsx : MediaType → Bool
has_jsx Jsx = true
has_jsx Tsx = true
has_jsx _ = false

-- the comments that may name the import source of JSX: none in a file without JSX
abbrev pub comments_for_jsx : MediaType → List DependencyComment → List DependencyComment
comments_for_jsx media_type comments = if has_jsx media_type then comments else []
