-- The outcomes of the parser of a table.
use Rattle.std.specs.Prelude.{Bool, ◌&&◌, List, Option, Some, None, find, codes}
use Rattle.std.specs.Str.{bytes_eq}
use Rattle.deno_graph_source.specs.ParsedSource.{ParsedModule}
use Rattle.deno_graph_source.specs.contracts.tree.media_type.MediaTypePartialEq.TheImpl as media_types
use Rattle.deno_graph_analyzer.specs.Parsing.{ParseFunction, Input, Outcome, rejected, specifier_text}
use Rattle.deno_graph_analyzer.specs.Parsing.{outcome_of}
use Rattle.deno_graph_source.specs.declared.tree.parse_error.ParseDiagnostic.{ParseDiagnostic}

-- the source has the specifier, the text and the media type of the input
abbrev pub is_for : Input → ParsedModule → Bool
is_for input source = bytes_eq (specifier_text source.specifier) input.specifier
    && bytes_eq source.text input.text
    && (media_types.ghosts).eq source.media_type input.media_type

-- the first source with the specifier, the text and the media type of an input
abbrev pub source_with : Input → List ParsedModule → Option ParsedModule
source_with input sources = find (is_for input) sources

-- the diagnostic of an input that isn't in the table
abbrev pub unknown_source : ParseDiagnostic
unknown_source = record {
  message = codes "unknown source";
  position = record { line = 0; character = 0 };
}

-- the outcome of the source that was found for an input
abbrev pub outcome_of_found : Option ParsedModule → Outcome
outcome_of_found (Some source) = outcome_of source
outcome_of_found None = rejected unknown_source

-- the outcome of each input
abbrev pub outcome_in : List ParsedModule → ParseFunction
outcome_in sources input = Some (outcome_of_found (source_with input sources))
