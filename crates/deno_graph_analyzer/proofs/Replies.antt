-- From a sound state, the answers of a capturing analyzer are those of the parser alone.
use Rattle.std.proofs.Common.{◌≡◌, ℕ, ◌+◌, ◌≤◌, Bool, true, false, not, ◌&&◌, cond, inl, inr, List, [], ◌∷◌}
use Rattle.std.proofs.Common.{Option, Some, None, option_map, Result, Ok, Err, refl, sym, ap, subst, ◌∙◌}
use Rattle.std.proofs.Common.{arith}
use denote.Enum.Bare.{same_true, true_same}
use Rattle.std.specs.Option.{option_or}
use Rattle.std.specs.Rc.{rc_str_bytes}
use Rattle.std.specs.Str.{bytes_eq}
use Rattle.deno_graph_source.specs.ParsedSource.{ParsedModule}
use Rattle.deno_graph_source.specs.contracts.tree.media_type.MediaType.{the_type}
use Rattle.deno_graph_source.specs.contracts.tree.media_type.MediaTypePartialEq.TheImpl as media_types
use Rattle.deno_graph_info.specs.declared.analysis.module_info.ModuleInfo.{ModuleInfo}
use Rattle.deno_graph_analyzer.specs.Capturing.{IsFaithful, MatchesInput, HasSourceFor, after_look_up}
use Rattle.deno_graph_analyzer.specs.Parsing.{ParseFunction, ResultRelation, Input, IsParsed, IsParseResult}
use Rattle.deno_graph_analyzer.specs.Parsing.{input_under, specifier_text}
use Rattle.deno_graph_analyzer.specs.Sources.{Sources, source_at, without_source}
use Rattle.deno_graph_source.specs.declared.tree.parse_error.ParseDiagnostic.{ParseDiagnostic}
use Rattle.deno_graph_source.specs.declared.tree.parse_error.ParseError.{ParseError}
use Rattle.deno_graph_source.specs.declared.tree.parse_error.ParseError.TheVariants as parse
use Rattle.deno_graph_analyzer.proofs.Analyses.{analysis_of_outcome}
use Rattle.deno_graph_analyzer.proofs.StoredSources.{source_at-with_source, source_at-without, equal_text}
use Rattle.deno_graph_analyzer.proofs.StoredSources.{same_text}
use Rattle.deno_graph_analyzer.proofs.Captured.{MayBeMarked, as_before, now_marked, look_up_marks}
use Rattle.deno_graph_analyzer.specs.Analysis.{IsAnalysisOf}
use Rattle.deno_graph_analyzer.specs.Captures.{State, IsSoundState, Captures}
use Rattle.deno_graph_analyzer.specs.Commands.{Unmarked, unmarked, source_of_outcome, input, latest, has_text}
use Rattle.deno_graph_analyzer.specs.Commands.{is_miss, misses, IsAnswer, AreAnswers}
use Rattle.deno_graph_analyzer.specs.Runs.{with_error, Ran, Runs}
use Rattle.deno_graph_analyzer.specs.declared.analyzer.AnalyzeError.TheVariants as analyze
use Rattle.deno_graph_analyzer.specs.declared.run.Command.{Command}
use Rattle.deno_graph_analyzer.specs.declared.run.Command.TheVariants.{Analyze, Parse, Remove}
use Rattle.deno_graph_analyzer.specs.declared.run.Answer.{Answer}
use Rattle.deno_graph_analyzer.specs.declared.run.Answer.TheVariants.{Analyzed, Parsed, Removed}

both : (a b : Bool) → a && b ≡ true → (a ≡ true) × (b ≡ true)
both true b h = (refl, h)
both false b h = cc

text_from_test : (asked : Input) (source : ParsedModule) → has_text asked (Some (unmarked source)) ≡ true
    → MatchesInput asked source
text_from_test asked source h =
    let each = both (bytes_eq source.text asked.text)
    ((media_types.ghosts).eq source.media_type asked.media_type) h in
    record {
      text = equal_text source.text asked.text each.0;
      media_type = same_true the_type tt source.media_type asked.media_type each.1;
    }

test_from_text : (asked : Input) (source : ParsedModule) → MatchesInput asked source
    → has_text asked (Some (unmarked source)) ≡ true
test_from_text asked source has =
    rw (has.text, same_text asked.text) (true_same the_type source.media_type asked.media_type has.media_type)

some_is : {A : Type 0} {x y : A} → Some x ≡ Some y → x ≡ y
some_is e = cc

-- `has_text` holds exactly if the store has a source for the input
stored_by_test : (m : Sources) (asked : Input) (found : Option ParsedModule)
    → source_at m asked.specifier ≡ found → has_text asked (option_map unmarked found) ≡ true
    → HasSourceFor m asked
stored_by_test m asked None is h = cc
stored_by_test m asked (Some source) is h = (source, is, text_from_test asked source h)

pub is_stored : (m : Sources) (asked : Input)
    → has_text asked (option_map unmarked (source_at m asked.specifier)) ≡ true → HasSourceFor m asked
is_stored m asked = stored_by_test m asked (source_at m asked.specifier) refl

pub is_not_stored : (m : Sources) (asked : Input)
    → has_text asked (option_map unmarked (source_at m asked.specifier)) ≡ false → ¬ HasSourceFor m asked
is_not_stored m asked h stored =
    let yes = ap (λ found. has_text asked (option_map unmarked found)) stored.1
    ∙ test_from_text asked stored.0 stored.2 in
    cc

-- without their marks, marked and unmarked sources are equal
unmarked_from : (m n : Sources) (key : List ℕ) → MayBeMarked m n key
    → option_map unmarked (source_at n key) ≡ option_map unmarked (source_at m key)
unmarked_from m n key (as_before same) = ap (option_map unmarked) same
unmarked_from m n key (now_marked source was now) = ap (option_map unmarked) now
    ∙ sym (ap (option_map unmarked) was)

pub unmarked_after_look_up : (scope : Bool) (m : Sources) (key other : List ℕ)
    → option_map unmarked (source_at (after_look_up scope m key) other)
    ≡ option_map unmarked (source_at m other)
unmarked_after_look_up scope m key other = unmarked_from m _ other (look_up_marks scope m key other)

-- the source of an outcome, without its mark
unmarked_parsed : (f : ParseFunction) (asked : Input) (source : ParsedModule) → IsParsed f asked source
    → Some (unmarked source) ≡ source_of_outcome asked (f asked)
unmarked_parsed f asked source is =
    rw is.outcome (ap (λ i. Some (record { input = i; program = source.program; comments = source.comments }))
    is.from_input)

option_map-cond : (b : Bool) (x y : Option ParsedModule)
    → option_map unmarked (cond b x y) ≡ cond b (option_map unmarked x) (option_map unmarked y)
option_map-cond true x y = refl
option_map-cond false x y = refl

put_at : (found : Option Unmarked) (source : Unmarked) (b : Bool) (before : Option Unmarked)
    → Some source ≡ found → cond b (Some source) before ≡ cond b (option_or found before) before
put_at found source b before is = ap (λ o. cond b (option_or o before) before) is

cond_same : {A : Type 0} (b : Bool) (x : A) → cond b x x ≡ x
cond_same true x = refl
cond_same false x = refl

module _ {P : Type 0} (parses : P → ParseFunction) (count : P → ℕ) (is_sound : P → Type 0)
    (may_return : P → ResultRelation) (f : ParseFunction) where
  stored_at : (scope : Bool) (asked : Input) (m : Sources) (source : ParsedModule)
      → source_at (after_look_up scope m asked.specifier) asked.specifier ≡ Some source
      → (other : List ℕ) (b : Bool) → bytes_eq asked.specifier other ≡ b
      → option_map unmarked (source_at m other)
      ≡ cond b (Some (unmarked source)) (option_map unmarked (source_at m other))
  stored_at scope asked m source at other true e =
      ap (λ key. option_map unmarked (source_at m key)) (sym (equal_text asked.specifier other e))
      ∙ sym (unmarked_after_look_up scope m asked.specifier asked.specifier) ∙ ap (option_map unmarked) at
  stored_at scope asked m source at other false e = refl

  -- the sources after a call that isn't out of memory
  sources_after : (scope : Bool) (asked : Input) (old new : State P) (result : Result ParsedModule ParseError)
      → Captures parses count is_sound may_return scope asked old result new → IsParseResult f asked result
      → ¬ (result ≡ Err parse.OutOfMemory) → (other : List ℕ)
      → option_map unmarked (source_at new.sources other)
      ≡ cond (bytes_eq asked.specifier other)
      (option_or (source_of_outcome asked (f asked)) (option_map unmarked (source_at old.sources other)))
      (option_map unmarked (source_at old.sources other))
  sources_after scope asked old new (Ok source) captures answer fine other =
      let key = asked.specifier in
      let was = option_map unmarked (source_at old.sources other) in
      let is = unmarked_parsed f asked source answer in
      let by : (test : Bool) → has_text asked (option_map unmarked (source_at old.sources key)) ≡ test
      → option_map unmarked (source_at new.sources other)
      ≡ cond (bytes_eq key other) (Some (unmarked source)) was =
      elim [
        | true ↦ λ e.
            let stored = captures.stored (is_stored old.sources asked e) in
            ap (λ sources. option_map unmarked (source_at sources other)) stored.kept
            ∙ unmarked_after_look_up scope old.sources key other
            ∙ stored_at scope asked old.sources source stored.source other (bytes_eq key other) refl
        | false ↦ λ e.
            let absent = captures.absent (is_not_stored old.sources asked e) in
            ap (λ sources. option_map unmarked (source_at sources other)) absent.kept
            ∙ ap (option_map unmarked) (source_at-with_source
            (after_look_up scope old.sources key) key source other)
            ∙ option_map-cond (bytes_eq key other) (Some source)
            (source_at (after_look_up scope old.sources key) other)
            ∙ ap (λ rest. cond (bytes_eq key other) (Some (unmarked source)) rest)
            (unmarked_after_look_up scope old.sources key other)
      ] in
      by _ refl ∙ put_at (source_of_outcome asked (f asked)) (unmarked source) (bytes_eq key other) was is
  sources_after scope asked old new (Err (parse.Diagnostic diagnostic)) captures answer fine other =
      let was = option_map unmarked (source_at old.sources other) in
      let same : option_map unmarked (source_at new.sources other) ≡ was =
      elim captures.err [
        | inl e ↦ ap (λ sources. option_map unmarked (source_at sources other)) e
        | inr e ↦ ap (λ sources. option_map unmarked (source_at sources other)) e
            ∙ unmarked_after_look_up scope old.sources asked.specifier other
      ] in
      same ∙ sym (cond_same (bytes_eq asked.specifier other) was)
      ∙ ap (λ outcome. cond (bytes_eq asked.specifier other)
      (option_or (source_of_outcome asked outcome) was) was) (sym answer)
  sources_after scope asked old new (Err parse.OutOfMemory) captures answer fine other = absurd (fine refl)

  -- the parser is called only if the store has no source for the input
  counted_after : (scope : Bool) (asked : Input) (old new : State P) (result : Result ParsedModule ParseError)
      → Captures parses count is_sound may_return scope asked old result new
      → (test : Bool) → has_text asked (option_map unmarked (source_at old.sources asked.specifier)) ≡ test
      → count new.parser ≤ count old.parser + cond (not test) 1 0
  counted_after scope asked old new result captures true e =
      let same : count new.parser ≡ count old.parser =
      ap count (captures.stored (is_stored old.sources asked e)).parser in
      omega arith
  counted_after scope asked old new result captures false e = captures.counted.1

  faithful_without : (m : Sources) (key : List ℕ) → IsFaithful f m → IsFaithful f (without_source m key)
  unfolding IsFaithful
  faithful_without m key faithful = λ other source at.
      let by : (b : Bool) → cond b None (source_at m other) ≡ Some source
      → IsParsed f (input_under other source) source =
      elim [ true ↦ λ e. cc | false ↦ λ e. faithful other source e ] in
      by (bytes_eq key other) (sym (source_at-without m key other) ∙ at)

  module _ (start : List ℕ → Option Unmarked) where
    -- the state after the past commands: sound, with the latest source of each specifier
    pub record Kept (past : List Command) (state : State P) : Type 0 where
      pub sound : IsSoundState parses is_sound state
      pub function : parses state.parser ≡ f
      pub sources : (key : List ℕ) → option_map unmarked (source_at state.sources key)
          ≡ latest f start past key

    pub record Step (past : List Command) (command : Command) (reply : Answer)
        (old new : State P) : Type 0 where
      pub kept : Kept (command ∷ past) new
      pub answer : IsAnswer f start past command reply
      pub counted : count new.parser ≤ count old.parser + cond (is_miss f start past command) 1 0

    -- what holds after a call that isn't out of memory
    record CapturedStep (past : List Command) (asked : Input) (result : Result ParsedModule ParseError)
        (old new : State P) : Type 0 where
      sound : IsSoundState parses is_sound new
      function : parses new.parser ≡ f
      sources : (key : List ℕ) → option_map unmarked (source_at new.sources key)
          ≡ cond (bytes_eq asked.specifier key)
          (option_or (source_of_outcome asked (f asked)) (latest f start past key)) (latest f start past key)
      answer : IsParseResult f asked result
      counted : count new.parser ≤ count old.parser + cond
          (not (has_text asked (latest f start past asked.specifier))) 1 0

    captured_step : (past : List Command) (scope : Bool) (asked : Input) (old new : State P)
        (result : Result ParsedModule ParseError)
        → Kept past old → Captures parses count is_sound may_return scope asked old result new
        → ¬ (result ≡ Err parse.OutOfMemory) → CapturedStep past asked result old new
    captured_step past scope asked old new result kept captures fine =
        let answer = subst (λ (g : ParseFunction). IsParseResult g asked result) kept.function
        (captures.sound_result kept.sound) in
        record {
          sound = captures.sound kept.sound;
          function = captures.function ∙ kept.function;
          sources = λ key. sources_after scope asked old new result captures answer fine key
              ∙ ap (λ before. cond (bytes_eq asked.specifier key)
              (option_or (source_of_outcome asked (f asked)) before) before) (kept.sources key);
          answer = answer;
          counted = counted_after scope asked old new result captures
              (has_text asked (latest f start past asked.specifier))
              (ap (has_text asked) (kept.sources asked.specifier));
        }

    analyzed_fine : (result : Result ParsedModule ParseError) (answer : Result ModuleInfo ParseDiagnostic)
        → IsAnalysisOf result (with_error analyze.Parse answer) → ¬ (result ≡ Err parse.OutOfMemory)
    analyzed_fine (Ok source) answer h = λ e. cc
    analyzed_fine (Err (parse.Diagnostic d)) answer h = λ e. cc
    analyzed_fine (Err parse.OutOfMemory) (Ok info) h = λ e. cc
    analyzed_fine (Err parse.OutOfMemory) (Err d) h = λ e. cc

    parsed_fine : (answer : Result ParsedModule ParseDiagnostic)
        → ¬ (with_error parse.Diagnostic answer ≡ Err parse.OutOfMemory)
    parsed_fine (Ok source) = λ e. cc
    parsed_fine (Err d) = λ e. cc

    pub step : (past : List Command) (command : Command) (reply : Answer) (old new : State P) → Kept past old
        → Ran parses count is_sound may_return old command reply new → Step past command reply old new
    unfolding latest
    step past (Analyze specifier source media_type) (Analyzed (Ok info)) old new kept ran =
        let asked = input specifier (rc_str_bytes source) media_type in
        let s = captured_step past false asked old new ran.parse_result kept ran.captures
        (analyzed_fine ran.parse_result (Ok info) ran.analysis) in
        record {
          kept = record { sound = s.sound; function = s.function; sources = s.sources };
          answer = analysis_of_outcome f asked ran.parse_result (Ok info) ran.analysis s.answer;
          counted = s.counted;
        }
    step past (Analyze specifier source media_type) (Analyzed (Err d)) old new kept ran =
        let asked = input specifier (rc_str_bytes source) media_type in
        let s = captured_step past false asked old new ran.parse_result kept ran.captures
        (analyzed_fine ran.parse_result (Err d) ran.analysis) in
        record {
          kept = record { sound = s.sound; function = s.function; sources = s.sources };
          answer = analysis_of_outcome f asked ran.parse_result (Err (analyze.Parse d)) ran.analysis s.answer;
          counted = s.counted;
        }
    step past (Parse specifier source media_type scope) (Parsed (Ok module_source)) old new kept ran =
        let asked = input specifier (rc_str_bytes source) media_type in
        let s = captured_step past scope asked old new (Ok module_source) kept ran
        (parsed_fine (Ok module_source)) in
        record {
          kept = record { sound = s.sound; function = s.function; sources = s.sources };
          answer = s.answer;
          counted = s.counted;
        }
    step past (Parse specifier source media_type scope) (Parsed (Err d)) old new kept ran =
        let asked = input specifier (rc_str_bytes source) media_type in
        let s = captured_step past scope asked old new (Err (parse.Diagnostic d)) kept ran
        (parsed_fine (Err d)) in
        record {
          kept = record { sound = s.sound; function = s.function; sources = s.sources };
          answer = s.answer;
          counted = s.counted;
        }
    step past (Remove specifier) (Removed found) old new kept ran =
        let key = specifier_text specifier in
        let same = ap parses ran.parser ∙ kept.function in
        let faithful = subst (λ (g : ParseFunction). IsFaithful g old.sources) kept.function
        kept.sound.sources in
        let still = subst (IsFaithful f) (sym ran.sources) (faithful_without old.sources key faithful) in
        let sources : (other : List ℕ) → option_map unmarked (source_at new.sources other)
        ≡ cond (bytes_eq key other) None (latest f start past other)
        = λ other. ap (λ sources. option_map unmarked (source_at sources other)) ran.sources
        ∙ ap (option_map unmarked) (source_at-without old.sources key other)
        ∙ option_map-cond (bytes_eq key other) None (source_at old.sources other)
        ∙ ap (λ rest. cond (bytes_eq key other) None rest) (kept.sources other) in
        let count_same : count new.parser ≡ count old.parser = ap count ran.parser in
        record {
          kept = record {
            sound = record {
              parser = subst is_sound (sym ran.parser) kept.sound.parser;
              sources = subst (λ (g : ParseFunction). IsFaithful g new.sources) (sym same) still;
            };
            function = same;
            sources = sources;
          };
          answer = ap (option_map unmarked) ran.found ∙ kept.sources key;
          counted = omega arith;
        }
    step past (Analyze specifier source media_type) (Parsed x) old new kept ran = absurd ran
    step past (Analyze specifier source media_type) (Removed x) old new kept ran = absurd ran
    step past (Parse specifier source media_type scope) (Analyzed x) old new kept ran = absurd ran
    step past (Parse specifier source media_type scope) (Removed x) old new kept ran = absurd ran
    step past (Remove specifier) (Analyzed x) old new kept ran = absurd ran
    step past (Remove specifier) (Parsed x) old new kept ran = absurd ran

    -- what holds after a whole run
    pub record Replies (past commands : List Command) (answers : List Answer)
        (old new : State P) : Type 0 where
      pub replies : AreAnswers f start past commands answers
      pub counted : count new.parser ≤ count old.parser + misses f start past commands
      pub done : List Command
      pub kept : Kept done new

    pub all_replies : (past commands : List Command) (answers : List Answer) (old new : State P)
        → Kept past old → Runs parses count is_sound may_return old commands answers new
        → Replies past commands answers old new
    all_replies past [] [] old new kept ran =
        let same : count new.parser ≡ count old.parser = ap (λ (s : State P). count s.parser) ran in
        record { replies = tt; counted = omega arith; done = past; kept = subst (Kept past) (sym ran) kept }
    all_replies past [] (answer ∷ answers) old new kept ran = absurd ran
    all_replies past (command ∷ commands) [] old new kept ran = absurd ran
    all_replies past (command ∷ commands) (answer ∷ answers) old new kept (next, first, others) =
        let one = step past command answer old next kept first in
        let rest = all_replies (command ∷ past) commands answers next new one.kept others in
        let first_count = one.counted in
        let rest_count = rest.counted in
        record {
          replies = (one.answer, rest.replies);
          counted = omega arith;
          done = rest.done;
          kept = rest.kept;
        }
