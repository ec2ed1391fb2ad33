-- Whether the source of a document spells the values of the document's string literals.
use Rattle.std.specs.Prelude.{◌≡◌, ℕ, ◌⊎◌, List, [], ◌∷◌, ◌++◌, Bool, false, true, All, IsTrue, if◌then◌else◌}
use Rattle.std.specs.Option.{option_to_list}
use Rattle.std.specs.Rc.{rc_str_bytes}
use Rattle.std.specs.String.{string_bytes}
use Rattle.deno_graph_base.specs.SourceRange.{IsTextRange, slice_of}
use Rattle.deno_graph_json.specs.declared.error.Step.{Step}
use Rattle.deno_graph_json.specs.declared.error.Step.TheVariants.{Member}
use Rattle.deno_graph_source.specs.Node.{kind_of, literal_of, nodes_of}
use Rattle.deno_graph_source.specs.NodePath.{NodePath}
use Rattle.deno_graph_source.specs.declared.tree.media_type.MediaType.{MediaType}
use Rattle.deno_graph_source.specs.declared.tree.media_type.MediaType.TheVariants.{Json, Other}
use Rattle.deno_graph_source.specs.declared.tree.node.Kind.{Kind}
use Rattle.deno_graph_source.specs.declared.tree.node.StrLit.{StrLit}
use Rattle.modinfo_literals.specs.Literal.{Spells}
use Rattle.modinfo_document.specs.Document.{IsDocumentIn, reads_document}
use Rattle.modinfo_document.specs.NodeKinds.{KindAt, kinds_of_body}
use Rattle.modinfo_document.specs.Kind.{literal_member}
use Rattle.modinfo_document.specs.Place.{node_path}
use Rattle.modinfo_document.specs.Pointer.{pointer_text}
use Rattle.modinfo_document.specs.Report.{HasNone, Keeps}
use Rattle.modinfo_document.specs.declared.document.Document.{Document}
use Rattle.modinfo_document.specs.declared.report.Report.{Report}
use Rattle.modinfo_document.specs.declared.report.Report.TheVariants.{Valid, Invalid}
use Rattle.modinfo_document.specs.declared.report.warning.ValueWarning.{ValueWarning}
use Rattle.modinfo_document.specs.declared.report.warning.Warning.{Warning}
use Rattle.modinfo_document.specs.declared.report.warning.WarningKind.TheVariants.{UnspelledLiteral, Value}
use Rattle.modinfo_document.specs.declared.report.warning.Warnings.{Warnings}

-- The literal's range is one of the text, and the text there is a string literal with the literal's value.
abbrev pub IsSpelledAt : List ℕ → StrLit → Type 0
IsSpelledAt source literal = IsTextRange source literal.range
    × Spells (slice_of source literal.range) literal.value

-- The string literal of the kind, if there is one, is spelled.
abbrev pub IsLiteralSpelled : List ℕ → Kind → Type 0
IsLiteralSpelled source kind = All (IsSpelledAt source) (option_to_list (literal_of kind))

-- Whether sources of the media type have string literals.
abbrev pub is_code : MediaType → Bool
is_code Json = false
is_code Other = false
is_code _ = true

-- If the document is one of code, each string literal of its nodes is spelled.
abbrev pub AreSpelled : Document → Type 0
AreSpelled document = IsTrue (is_code document.media_type)
    → All (λ node. IsLiteralSpelled (rc_str_bytes document.source) (kind_of node)) (nodes_of document.program)

-- The path of the string literal of the node with these indices.
abbrev pub literal_path : Kind → NodePath → List Step
literal_path kind indices = Member (literal_member kind) ∷ node_path indices

-- The source doesn't spell the string literal of the node with these indices, and the warning is about it.
pub record IsDeserved (source : List ℕ) (indices : NodePath) (kind : Kind) (warning : Warning) : Type 0 where
  pub unspelled : IsLiteralSpelled source kind → ⊥
  pub about : warning.kind ≡ UnspelledLiteral
  pub pointer : string_bytes warning.pointer ≡ pointer_text (literal_path kind indices)

-- There is one warning about each string literal of these kinds that isn't spelled, in their order, and no
-- other.
abbrev pub AreAbout : List ℕ → List KindAt → List Warning → Type 0
AreAbout source [] warnings = warnings ≡ []
AreAbout source (at ∷ later) warnings = (IsLiteralSpelled source at.1 × AreAbout source later warnings)
    ⊎ ((first : Warning) × (rest : List Warning) × (warnings ≡ first ∷ rest)
    × IsDeserved source at.0 at.1 first × AreAbout source later rest)

-- The kinds of the nodes of a document of code.
abbrev pub kinds_of_code : Document → List KindAt
kinds_of_code document = if is_code document.media_type then kinds_of_body document.program.body else []

-- The warning is about a value.
abbrev pub IsOfValue : Warning → Type 0
IsOfValue warning = (value : ValueWarning) × (warning.kind ≡ Value value)

-- All warnings are about values.
abbrev pub HasOnlyValues : Warnings → Type 0
HasOnlyValues warnings = (values : List Warning) × All IsOfValue values × Keeps values warnings

-- The warnings are those about values, and after them those about the string literals that the source doesn't
-- spell.
pub record WarnsOfEach (document : Document) (warnings : Warnings) : Type 0 where
  pub values : List Warning
  pub literals : List Warning
  pub of_values : All IsOfValue values
  pub of_literals : AreAbout (rc_str_bytes document.source) (kinds_of_code document) literals
  pub keeps : Keeps (values ++ literals) warnings

-- A report without a fault is one on a module document. It has a warning about each string literal that isn't
-- spelled, and without a warning all are.
abbrev pub WarnsOfLiterals : List ℕ → Report → Type 0
WarnsOfLiterals text (Valid warnings) = (document : Document) × IsDocumentIn reads_document text document
    × (HasNone warnings → AreSpelled document) × WarnsOfEach document warnings
WarnsOfLiterals text (Invalid report) = Unit {0}
