-- A store after a look-up, and after a new source is stored.
use Rattle.std.proofs.Common.{◌≡◌, ℕ, Bool, true, false, cond, List, Option, Some, None, Result, Ok, Err}
use Rattle.std.proofs.Common.{IfOk, OnErr, refl, sym, ap, subst, ◌∙◌}
use Rattle.std.specs.Str.{bytes_eq}
use Rattle.deno_graph_source.specs.ParsedSource.{ParsedModule, marked}
use Rattle.deno_graph_analyzer.specs.Capturing.{IsFaithful, MatchesInput, HasSourceFor, after_look_up}
use Rattle.deno_graph_analyzer.specs.Parsing.{ParseFunction, Input, IsParsed, IsParseResult, input_of}
use Rattle.deno_graph_analyzer.specs.Parsing.{input_under}
use Rattle.deno_graph_analyzer.specs.Sources.{Sources, source_at, with_source, with_mark_of}
use Rattle.deno_graph_source.specs.declared.tree.parse_error.ParseError.{ParseError}
use Rattle.deno_graph_analyzer.proofs.StoredSources.{source_at-with_source, equal_text}

-- the sources `n` have at a key what `m` has, or the same source with its mark
pub data MayBeMarked (m n : Sources) (key : List ℕ) : Type 0 where
  as_before : source_at n key ≡ source_at m key → MayBeMarked m n key
  now_marked : (source : ParsedModule) → source_at m key ≡ Some source
      → source_at n key ≡ Some (marked source) → MayBeMarked m n key

marked_in : (m : Sources) (key : List ℕ) (found : Option ParsedModule) → source_at m key ≡ found
    → (other : List ℕ) → MayBeMarked m (with_mark_of m key found) other
marked_in m key None is other = as_before refl
marked_in m key (Some source) is other =
    let at : source_at (with_source m key (marked source)) other
    ≡ cond (bytes_eq key other) (Some (marked source)) (source_at m other) =
    source_at-with_source m key (marked source) other in
    elim (bytes_eq key other) as (λ b. bytes_eq key other ≡ b
    → source_at (with_source m key (marked source)) other
    ≡ cond b (Some (marked source)) (source_at m other)
    → MayBeMarked m (with_source m key (marked source)) other) [
      | true ↦ λ same at. now_marked source (ap (source_at m) (sym (equal_text key other same)) ∙ is) at
      | false ↦ λ other at. as_before at
    ] refl at

-- a look-up changes at most one mark
pub look_up_marks : (scope : Bool) (m : Sources) (key other : List ℕ)
    → MayBeMarked m (after_look_up scope m key) other
look_up_marks false m key other = as_before refl
look_up_marks true m key other = marked_in m key (source_at m key) refl other

some_is : {A : Type 0} {x y : A} → Some x ≡ Some y → x ≡ y
some_is e = cc

unmarked_text : (input : Input) (source : ParsedModule) → MatchesInput input (marked source)
    → MatchesInput input source
unmarked_text input source has = record { text = has.text; media_type = has.media_type }

marked_text : (input : Input) (source : ParsedModule) → MatchesInput input source
    → MatchesInput input (marked source)
marked_text input source has = record { text = has.text; media_type = has.media_type }

stored_from : (m n : Sources) (input : Input) (source : ParsedModule) → MayBeMarked m n input.specifier
    → source_at n input.specifier ≡ Some source → MatchesInput input source → HasSourceFor m input
stored_from m n input source (as_before same) is has = (source, sym same ∙ is, has)
stored_from m n input source (now_marked before was now) is has =
    (before, was, unmarked_text input before (subst (MatchesInput input) (some_is (sym is ∙ now)) has))

-- a source for the input after the look-up was there before the look-up
pub stored_before : (scope : Bool) (m : Sources) (input : Input) (source : ParsedModule)
    → source_at (after_look_up scope m input.specifier) input.specifier ≡ Some source
    → MatchesInput input source
    → HasSourceFor m input
stored_before scope m input source =
    stored_from m _ input source (look_up_marks scope m input.specifier input.specifier)

found_from : (m n : Sources) (input : Input) → MayBeMarked m n input.specifier → HasSourceFor m input
    → (source : ParsedModule) × (source_at n input.specifier ≡ Some source) × MatchesInput input source
found_from m n input (as_before same) stored = (stored.0, same ∙ stored.1, stored.2)
found_from m n input (now_marked before was now) stored = (
  marked before,
  now,
  marked_text input before
      (subst (MatchesInput input) (some_is (sym stored.1 ∙ was)) stored.2),
)

-- a source for the input before the look-up is there after the look-up
pub stored_after : (scope : Bool) (m : Sources) (input : Input) → HasSourceFor m input
    → (source : ParsedModule)
    × (source_at (after_look_up scope m input.specifier) input.specifier ≡ Some source)
    × MatchesInput input source
stored_after scope m input = found_from m _ input (look_up_marks scope m input.specifier input.specifier)

module _ (parses : ParseFunction) where
  parsed_marked : (input : Input) (source : ParsedModule) → IsParsed parses input source
      → IsParsed parses input (marked source)
  parsed_marked input source is = record { from_input = is.from_input; outcome = is.outcome }

  -- a source that matches an input is the outcome of the input if it is the outcome of its own text
  parsed_for : (input : Input) (source : ParsedModule) → MatchesInput input source
      → IsParsed parses (input_under input.specifier source) source → IsParsed parses input source
  parsed_for input source has is =
      let same : input_under input.specifier source ≡ input = λ i. record {
        specifier = input.specifier;
        text = has.text i;
        media_type = has.media_type i;
      } in
      subst (λ (asked : Input). IsParsed parses asked source) same is

  -- a source for an input in a faithful store is the outcome of the input
  pub faithful_answer : (m : Sources) (input : Input) (source : ParsedModule) → IsFaithful parses m
      → source_at m input.specifier ≡ Some source → MatchesInput input source → IsParsed parses input source
  unfolding IsFaithful
  faithful_answer m input source faithful is has =
      parsed_for input source has (faithful input.specifier source is)

  faithful_at : (m n : Sources) (key : List ℕ) (source : ParsedModule) → IsFaithful parses m
      → MayBeMarked m n key → source_at n key ≡ Some source
      → IsParsed parses (input_under key source) source
  unfolding IsFaithful
  faithful_at m n key source faithful (as_before same) is = faithful key source (sym same ∙ is)
  faithful_at m n key source faithful (now_marked before was now) is =
      subst (λ (s : ParsedModule). IsParsed parses (input_under key s) s) (some_is (sym now ∙ is))
      (parsed_marked _ before (faithful key before was))

  -- a faithful store stays faithful after a look-up
  pub faithful_asked : (scope : Bool) (m : Sources) (key : List ℕ) → IsFaithful parses m
      → IsFaithful parses (after_look_up scope m key)
  unfolding IsFaithful
  faithful_asked scope m key faithful =
      λ other source. faithful_at m _ other source faithful (look_up_marks scope m key other)

  faithful_one : (m : Sources) (input : Input) (source : ParsedModule) → IsFaithful parses m
      → IsParsed parses input source
      → (key : List ℕ) (other : ParsedModule) (b : Bool) → bytes_eq input.specifier key ≡ b
      → cond b (Some source) (source_at m key) ≡ Some other
      → IsParsed parses (input_under key other) other
  unfolding IsFaithful
  faithful_one m input source faithful is key other true same at =
      let from : input_of source ≡ input = is.from_input in
      let same_input : input ≡ input_under key source = λ i. record {
        specifier = equal_text input.specifier key same i;
        text = sym (ap (λ (asked : Input). asked.text) from) i;
        media_type = sym (ap (λ (asked : Input). asked.media_type) from) i;
      } in
      subst (λ (s : ParsedModule). IsParsed parses (input_under key s) s) (some_is at)
      (subst (λ (asked : Input). IsParsed parses asked source) same_input is)
  faithful_one m input source faithful is key other false apart at = faithful key other at

  -- a faithful store stays faithful after an outcome is stored
  pub faithful_with : (m : Sources) (input : Input) (source : ParsedModule) → IsFaithful parses m
      → IsParsed parses input source → IsFaithful parses (with_source m input.specifier source)
  unfolding IsFaithful
  faithful_with m input source faithful is = λ key other at.
      faithful_one m input source faithful is key other (bytes_eq input.specifier key) refl
      (sym (source_at-with_source m input.specifier source key) ∙ at)

  -- a faithful store stays faithful after any result of the parser
  pub faithful_after : (m : Sources) (input : Input) (result : Result ParsedModule ParseError)
      (after : Sources)
      → IsFaithful parses m → IsParseResult parses input result
      → IfOk result (λ source. after ≡ with_source m input.specifier source) → OnErr result (after ≡ m)
      → IsFaithful parses after
  faithful_after m input (Ok source) after faithful answer kept same =
      subst (IsFaithful parses) (sym kept) (faithful_with m input source faithful answer)
  faithful_after m input (Err error) after faithful answer kept same =
      subst (IsFaithful parses) (sym same) faithful
