-- One call of a capturing parser, as a relation between the state before and after the call.
use Rattle.std.specs.Prelude.{◌≡◌, ℕ, ◌+◌, ◌≤◌, ◌⊎◌, Bool, Some, Result, Err, IfOk, IfErr, OnOk, OnErr}
use Rattle.deno_graph_source.specs.ParsedSource.{ParsedModule}
use Rattle.deno_graph_analyzer.specs.Capturing.{IsFaithful, HasSourceFor, after_look_up}
use Rattle.deno_graph_analyzer.specs.Parsing.{ParseFunction, ResultRelation, Input, IsParseResult}
use Rattle.deno_graph_analyzer.specs.Sources.{Sources, source_at, with_source}
use Rattle.deno_graph_source.specs.declared.tree.parse_error.ParseError.{ParseError}
use Rattle.deno_graph_source.specs.declared.tree.parse_error.ParseError.TheVariants.{OutOfMemory}

-- the state of a parser over a store: the parser and the sources in the store
pub record State (P : Type 0) : Type 0 where
  pub parser : P
  pub sources : Sources

abbrev pub state : {P : Type 0} → P → Sources → State P
state parser sources = record { parser = parser; sources = sources }

-- the parser is sound, and each source in the store is an outcome of the parser
pub record IsSoundState {P : Type 0} (parses : P → ParseFunction) (is_sound : P → Type 0)
    (state : State P) : Type 0 where
  pub parser : is_sound state.parser
  pub sources : IsFaithful (parses state.parser) state.sources

-- The result is the stored source, and the parser isn't called. `sources` are the sources after the
-- look-up.
pub record ReturnsStored {P : Type 0} (sources : Sources) (input : Input) (old : State P)
    (result : Result ParsedModule ParseError) (new : State P) : Type 0 where
  pub source : IfOk result (λ source. source_at sources input.specifier ≡ Some source)
  pub error : IfErr result (λ error. error ≡ OutOfMemory)
  pub parser : new.parser ≡ old.parser
  pub kept : OnOk result (new.sources ≡ sources)

-- The result is the parser's, and is then in the store, or it is out of memory. `sources` are the sources
-- after the look-up.
pub record ReturnsParsed (may_return : Result ParsedModule ParseError → Type 0)
    (sources : Sources) (input : Input) (result : Result ParsedModule ParseError)
    (after : Sources) : Type 0 where
  pub allowed : (result ≡ Err OutOfMemory) ⊎ may_return result
  pub kept : IfOk result (λ source. after ≡ with_source sources input.specifier source)

module _ {P : Type 0} (parses : P → ParseFunction) (count : P → ℕ) (is_sound : P → Type 0)
    (may_return : P → ResultRelation) where
  -- one call of the capturing parser, with or without the scope option
  pub record Captures (scope : Bool) (input : Input) (old : State P)
      (result : Result ParsedModule ParseError) (new : State P) : Type 0 where
    pub stored : HasSourceFor old.sources input
        → ReturnsStored (after_look_up scope old.sources input.specifier) input old result new
    pub absent : ¬ HasSourceFor old.sources input
        → ReturnsParsed (may_return old.parser input scope)
        (after_look_up scope old.sources input.specifier) input result new.sources
    -- if the parser is called and is sound, the result is its outcome
    pub outcome : ¬ HasSourceFor old.sources input → is_sound old.parser
        → IsParseResult (parses old.parser) input result
    pub err : OnErr result ((new.sources ≡ old.sources)
        ⊎ (new.sources ≡ after_look_up scope old.sources input.specifier))
    pub function : parses new.parser ≡ parses old.parser
    pub counted : (count old.parser ≤ count new.parser)
        × (count new.parser ≤ count old.parser + 1)
    pub sound_parser : is_sound old.parser → is_sound new.parser
    -- a sound state stays sound, and the result is the parser's outcome
    pub sound : IsSoundState parses is_sound old → IsSoundState parses is_sound new
    pub sound_result : IsSoundState parses is_sound old
        → IsParseResult (parses old.parser) input result
