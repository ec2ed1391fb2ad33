-- The look-up of a text in a store, and stores that have only a parser's outcomes.
use Rattle.std.specs.Prelude.{◌≡◌, ℕ, List, Bool, true, false, Some}
use Rattle.deno_graph_source.specs.ParsedSource.{ParsedModule}
use Rattle.deno_graph_analyzer.specs.Parsing.{ParseFunction, Input, IsParsed, input_under}
use Rattle.deno_graph_analyzer.specs.Sources.{Sources, source_at, with_mark}

-- each source in the store is the outcome of its specifier, its text and its media type
unfoldable pub IsFaithful : ParseFunction → Sources → Type 0
IsFaithful parses sources =
    (specifier : List ℕ) (source : ParsedModule) → source_at sources specifier ≡ Some source
    → IsParsed parses (input_under specifier source) source

-- the source has the text and the media type of the input
pub record MatchesInput (input : Input) (source : ParsedModule) : Type 0 where
  pub text : source.text ≡ input.text
  pub media_type : source.media_type ≡ input.media_type

-- the sources after the look-up of a specifier, which sets the mark with the scope option
abbrev pub after_look_up : Bool → Sources → List ℕ → Sources
after_look_up false sources specifier = sources
after_look_up true sources specifier = with_mark sources specifier

-- the store has a source with the specifier, the text and the media type of the input
abbrev pub HasSourceFor : Sources → Input → Type 0
HasSourceFor sources input = (source : ParsedModule)
    × (source_at sources input.specifier ≡ Some source) × MatchesInput input source
