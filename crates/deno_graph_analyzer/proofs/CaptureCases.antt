-- The two cases of a call of a capturing parser: it returns the stored source, or calls the parser.
use Rattle.std.proofs.Common.{◌≡◌, ℕ, ◌+◌, ◌≤◌, ◌⊎◌, inr, Bool, Some, Result, Ok, Err, IfSome, IfOk, OnErr}
use Rattle.std.proofs.Common.{sym, ap, subst, ◌∙◌, arith}
use Rattle.deno_graph_source.specs.ParsedSource.{ParsedModule}
use Rattle.deno_graph_analyzer.specs.Captures.{State, IsSoundState, Captures}
use Rattle.deno_graph_analyzer.specs.Capturing.{IsFaithful, MatchesInput, HasSourceFor, after_look_up}
use Rattle.deno_graph_analyzer.specs.Parsing.{ParseFunction, ResultRelation, Input, IsParseResult}
use Rattle.deno_graph_analyzer.specs.Sources.{Sources, source_at, with_source}
use Rattle.deno_graph_source.specs.declared.tree.parse_error.ParseError.{ParseError}
use Rattle.deno_graph_source.specs.declared.tree.parse_error.ParseError.TheVariants.{OutOfMemory}
use Rattle.deno_graph_analyzer.proofs.Captured.{stored_before, stored_after, faithful_asked, faithful_answer}
use Rattle.deno_graph_analyzer.proofs.Captured.{faithful_after}

err_weaker : {X E A B : Type 0} (result : Result X E) → (A → B) → OnErr result A → OnErr result B
err_weaker (Ok x) f err = tt
err_weaker (Err e) f err = f err

module _ {P : Type 0} (parses : P → ParseFunction) (count : P → ℕ) (is_sound : P → Type 0)
    (may_return : P → ResultRelation) (scope : Bool) (input : Input) (old new : State P) where
  -- the stored source has the text and the media type of the input
  pub captured_from_store : (source : ParsedModule) → new.parser ≡ old.parser
      → new.sources ≡ after_look_up scope old.sources input.specifier
      → source_at new.sources input.specifier ≡ Some source → MatchesInput input source
      → Captures parses count is_sound may_return scope input old (Ok source) new
  captured_from_store source parser sources found has =
      let at : source_at (after_look_up scope old.sources input.specifier) input.specifier ≡ Some source =
      ap (λ m. source_at m input.specifier) (sym sources) ∙ found in
      let is_stored : HasSourceFor old.sources input = stored_before scope old.sources input source at has in
      let function : parses new.parser ≡ parses old.parser = ap parses parser in
      let count_same : count new.parser ≡ count old.parser = ap count parser in
      let still : IsSoundState parses is_sound old → IsFaithful (parses old.parser) new.sources = λ sound.
      subst (IsFaithful (parses old.parser)) (sym sources)
      (faithful_asked (parses old.parser) scope old.sources input.specifier sound.sources) in
      record {
        stored = λ stored. record { source = at; error = tt; parser = parser; kept = sources };
        absent = λ absent. absurd (absent is_stored);
        outcome = λ absent sound. absurd (absent is_stored);
        err = tt;
        function = function;
        counted = (omega arith, omega arith);
        sound_parser = subst is_sound (sym parser);
        sound = λ sound. record {
          parser = subst is_sound (sym parser) sound.parser;
          sources = subst (λ (f : ParseFunction). IsFaithful f new.sources) (sym function) (still sound);
        };
        sound_result = λ sound. faithful_answer (parses old.parser) new.sources input source
            (still sound) found has;
      }

  -- the sources after the look-up, `between`, have no source for the input
  pub captured_from_parser : (between : Sources) (result : Result ParsedModule ParseError)
      → between ≡ after_look_up scope old.sources input.specifier
      → IfSome (source_at between input.specifier) (λ source. ¬ MatchesInput input source)
      → (is_sound old.parser → IsParseResult (parses old.parser) input result)
      → ((result ≡ Err OutOfMemory) ⊎ may_return old.parser input scope result)
      → IfOk result (λ source. new.sources ≡ with_source between input.specifier source)
      → OnErr result (new.sources ≡ between)
      → parses new.parser ≡ parses old.parser
      → (count old.parser ≤ count new.parser) × (count new.parser ≤ count old.parser + 1)
      → (is_sound old.parser → is_sound new.parser)
      → Captures parses count is_sound may_return scope input old result new
  captured_from_parser between result asked other outcome own kept err function counted sound_parser =
      let not_stored : ¬ HasSourceFor old.sources input = λ stored.
      let there = stored_after scope old.sources input stored in
      let at = ap (λ m. source_at m input.specifier) asked ∙ there.1 in
      subst (λ found. IfSome found (λ source. ¬ MatchesInput input source)) at other there.2 in
      record {
        stored = λ stored. absurd (not_stored stored);
        absent = λ absent. record {
          allowed = own;
          kept = subst (λ m. IfOk result (λ source. new.sources ≡ with_source m input.specifier source)) asked
              kept;
        };
        outcome = λ absent. outcome;
        err = err_weaker result (λ same. inr (same ∙ asked)) err;
        function = function;
        counted = counted;
        sound_parser = sound_parser;
        sound = λ sound. record {
          parser = sound_parser sound.parser;
          sources = subst (λ (f : ParseFunction). IsFaithful f new.sources) (sym function)
              (faithful_after (parses old.parser) between input result new.sources
              (subst (IsFaithful (parses old.parser)) (sym asked)
              (faithful_asked (parses old.parser) scope old.sources input.specifier sound.sources))
              (outcome sound.parser) kept err);
        };
        sound_result = λ sound. outcome sound.parser;
      }
