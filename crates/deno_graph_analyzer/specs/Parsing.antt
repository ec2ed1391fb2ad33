-- The outcomes of a parser, and the results that it returns.
use Rattle.std.specs.Prelude.{◌≡◌, ℕ, Bool, List, Option, Some, Result, Ok, Err}
use Rattle.std.specs.Rc.{rc_str_bytes}
use Rattle.url.specs.Parts.{Parts, serialize}
use Rattle.deno_graph_source.specs.Comments.{FiledComments}
use Rattle.deno_graph_source.specs.ParsedSource.{ParsedModule}
use Rattle.deno_graph_source.specs.declared.tree.media_type.MediaType.{MediaType}
use Rattle.deno_graph_source.specs.declared.tree.node.Program.{Program}
use Rattle.deno_graph_source.specs.declared.tree.parse_error.ParseDiagnostic.{ParseDiagnostic}
use Rattle.deno_graph_source.specs.declared.tree.parse_error.ParseError.{ParseError}
use Rattle.deno_graph_source.specs.declared.tree.parse_error.ParseError.TheVariants.{Diagnostic, OutOfMemory}
use Rattle.deno_graph_analyzer.specs.declared.parser.ParseOptions.{ParseOptions}

-- the text of a specifier; specifiers are compared by their texts
unfoldable pub specifier_text : Parts → List ℕ
specifier_text specifier = serialize specifier

-- an input of a parser: the text of a specifier, the text of the module, and its media type
pub record Input : Type 0 where
  pub specifier : List ℕ
  pub text : List ℕ
  pub media_type : MediaType

-- an outcome of an input: a tree with comments, or a diagnostic
pub data Outcome : Type 0 where
  parsed : Program → FiledComments → Outcome
  rejected : ParseDiagnostic → Outcome

-- the outcome of each input, which has at most one
abbrev pub ParseFunction : Type 0
ParseFunction = Input → Option Outcome

-- the input of the options of a parse
abbrev pub input_of_options : ParseOptions → Input
input_of_options options = record {
  specifier = specifier_text options.specifier.now;
  text = rc_str_bytes options.source;
  media_type = options.media_type;
}

-- the input with the text and media type of a source, and another specifier
abbrev pub input_under : List ℕ → ParsedModule → Input
input_under specifier source = record {
  specifier = specifier;
  text = source.text;
  media_type = source.media_type;
}

-- the input and the outcome of a source
abbrev pub input_of : ParsedModule → Input
input_of source = input_under (specifier_text source.specifier) source

abbrev pub outcome_of : ParsedModule → Outcome
outcome_of source = parsed source.program source.comments

-- the source is the outcome of the input, with any mark
pub record IsParsed (parses : ParseFunction) (input : Input) (source : ParsedModule) : Type 0 where
  pub from_input : input_of source ≡ input
  pub outcome : parses input ≡ Some (outcome_of source)

-- the result is the outcome of the input, or out of memory
abbrev pub IsParseResult : ParseFunction → Input → Result ParsedModule ParseError → Type 0
IsParseResult parses input (Ok source) = IsParsed parses input source
IsParseResult parses input (Err (Diagnostic diagnostic)) = parses input ≡ Some (rejected diagnostic)
IsParseResult parses input (Err OutOfMemory) = Unit {0}

-- which results a parser may return for an input, with or without the scope option
abbrev pub ResultRelation : Type 1
ResultRelation = Input → Bool → Result ParsedModule ParseError → Type 0
