-- Triple-slash references.
use Rattle.std.specs.Prelude.{◌≡◌, ◌⊎◌, ℕ, List, Option, Some, None}
use Rattle.std.specs.List.{AllZip, flat_map}
use Rattle.std.specs.Option.{option_to_list}
use Rattle.deno_graph_source.specs.declared.tree.comments.CommentKind.TheVariants.{Line}
use Rattle.deno_graph_source.specs.declared.tree.comments.DependencyComment.{DependencyComment}
use Rattle.deno_graph_base.specs.ResolutionMode.{mode_named}
use Rattle.deno_graph_base.specs.declared.values.resolution_mode.TypeScriptTypesResolutionMode.{TypeScriptTypesResolutionMode}
use Rattle.deno_graph_info.specs.declared.analysis.type_script_reference.TypeScriptReference.{TypeScriptReference}
use Rattle.deno_graph_info.specs.declared.analysis.type_script_reference.TypeScriptReference.TheVariants.{Path}
use Rattle.deno_graph_info.specs.declared.analysis.type_script_reference.TypeScriptReference.TheVariants.{Types}
use Rattle.deno_graph_pragmas.specs.Finders as finder
use Rattle.deno_graph_pragmas.specs.Split.{TextPart, HasSplit, IsCaptured}
use Rattle.deno_graph_module_info.specs.Pragma.{Pragma, HasPragma, Names, quoted}
use Rattle.deno_graph_module_info.specs.Spelled.{CoversQuoted}

abbrev pub path_reference_pragma : Pragma
path_reference_pragma = quoted finder.path_reference_pattern

abbrev pub types_reference_pragma : Pragma
types_reference_pragma = quoted finder.types_reference_pattern

-- the comment is a line comment with the text of a triple-slash reference
pub record IsTripleSlashReference (comment : DependencyComment) : Type 0 where
  pub kind : comment.kind ≡ Line
  pub split : HasSplit finder.triple_slash_reference_pattern comment.text

-- the mode is the value of `resolution-mode` in the text, if the text has one that is a known mode
abbrev pub IsModeOf : List ℕ → Option TypeScriptTypesResolutionMode → Type 0
IsModeOf text mode =
    (¬ HasSplit finder.resolution_mode_pattern text × (mode ≡ None))
    ⊎ ((part : TextPart) × IsCaptured finder.resolution_mode_pattern text part
    × (mode ≡ mode_named part.text))

-- the reference is that of a triple-slash reference: a path, or else types, or else none
abbrev pub RefersTo : List ℕ → DependencyComment → Option TypeScriptReference → Type 0
RefersTo source comment None =
    ¬ HasPragma path_reference_pragma comment × ¬ HasPragma types_reference_pragma comment
RefersTo source comment (Some (Path specifier)) = Names source path_reference_pragma comment specifier
RefersTo source comment (Some (Types specifier mode)) =
    ¬ HasPragma path_reference_pragma comment
    × Names source types_reference_pragma comment specifier
    × IsModeOf comment.text mode

-- the reference is that of the comment: none if the comment is no triple-slash reference
abbrev pub IsReferenceOf : List ℕ → DependencyComment → Option TypeScriptReference → Type 0
IsReferenceOf source comment reference =
    (¬ IsTripleSlashReference comment × (reference ≡ None))
    ⊎ (IsTripleSlashReference comment × RefersTo source comment reference)

-- the references are those of the comments, in the order of the comments
pub record AreReferences (source : List ℕ) (comments : List DependencyComment)
    (references : List TypeScriptReference) : Type 0 where
  pub each : List (Option TypeScriptReference)
  pub of_comments : AllZip (IsReferenceOf source) comments each
  pub those : references ≡ flat_map option_to_list each

-- the range of the specifier of a reference covers the specifier with its quotes
abbrev pub CoversReference : List ℕ → TypeScriptReference → Type 0
CoversReference source (Path specifier) = CoversQuoted source specifier
CoversReference source (Types specifier mode) = CoversQuoted source specifier
