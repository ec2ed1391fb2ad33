-- Runs of commands: a run with one more command, and what stays true through a run.
use Rattle.std.proofs.Common.{◌≡◌, ℕ, ◌⊎◌, inl, inr, List, [], ◌∷◌, ◌++◌, None, option_map, Result, Ok, Err}
use Rattle.std.proofs.Common.{IfOk, OnErr, refl, sym, ap, subst, ◌∙◌}
use Rattle.std.specs.Cmp.Lexicographic.{slice_cmp}
use Rattle.std.specs.FinMap.{get-empty}
use Rattle.std.specs.Ordering.{nat_cmp}
use Rattle.deno_graph_analyzer.specs.Capturing.{IsFaithful}
use Rattle.deno_graph_analyzer.specs.Parsing.{ParseFunction, ResultRelation}
use Rattle.deno_graph_analyzer.specs.Sources.{Sources, no_sources, source_at}
use Rattle.deno_graph_analyzer.specs.Captures.{State, IsSoundState}
use Rattle.deno_graph_analyzer.specs.Commands.{unmarked, unmarked_at, latest}
use Rattle.deno_graph_analyzer.specs.Runs.{Ran, Runs, RanOutOfMemory, EndsEarly}
use Rattle.deno_graph_analyzer.specs.declared.run.Command.{Command}
use Rattle.deno_graph_analyzer.specs.declared.run.Command.TheVariants.{Analyze, Parse, Remove}
use Rattle.deno_graph_analyzer.specs.declared.run.Answer.{Answer}
use Rattle.deno_graph_analyzer.specs.declared.run.Answer.TheVariants.{Analyzed, Parsed, Removed}
use Rattle.deno_graph_analyzer.proofs.Replies.{Kept, Replies, all_replies}

-- a conclusion from both cases of a result
pub by_result : {X E Q : Type 0} (result : Result X E) (A : X → Type 0) (B : Type 0) → IfOk result A
    → OnErr result B → ((x : X) → A x → Q) → (B → Q) → Q
by_result (Ok x) A B ok err f g = f x ok
by_result (Err e) A B ok err f g = g err

pub at_err : {T E P : Type 0} (result : Result T E) → P → OnErr result P
at_err (Ok x) p = tt
at_err (Err e) p = p

module _ {P : Type 0} (parses : P → ParseFunction) (count : P → ℕ) (is_sound : P → Type 0)
    (may_return : P → ResultRelation) where
  pub runs_more : (commands : List Command) (answers : List Answer) (old next new : State P)
      (command : Command) (answer : Answer)
      → Runs parses count is_sound may_return old commands answers next
      → Ran parses count is_sound may_return next command answer new
      → Runs parses count is_sound may_return old (commands ++ command ∷ []) (answers ++ answer ∷ []) new
  runs_more [] [] old next new command answer ran one =
      (new, subst (λ (s : State P). Ran parses count is_sound may_return s command answer new) ran one, refl)
  runs_more [] (a ∷ rest) old next new command answer ran one = absurd ran
  runs_more (c ∷ cs) [] old next new command answer ran one = absurd ran
  runs_more (c ∷ cs) (a ∷ rest) old next new command answer (then, first, others) one =
      (then, first, runs_more cs rest then next new command answer others one)

  ran_function : (command : Command) (answer : Answer) (old new : State P)
      → Ran parses count is_sound may_return old command answer new → parses new.parser ≡ parses old.parser
  ran_function (Analyze specifier source media_type) (Analyzed x) old new ran = ran.captures.function
  ran_function (Parse specifier source media_type scope) (Parsed x) old new ran = ran.function
  ran_function (Remove specifier) (Removed x) old new ran = ap parses ran.parser
  ran_function (Analyze specifier source media_type) (Parsed x) old new ran = absurd ran
  ran_function (Analyze specifier source media_type) (Removed x) old new ran = absurd ran
  ran_function (Parse specifier source media_type scope) (Analyzed x) old new ran = absurd ran
  ran_function (Parse specifier source media_type scope) (Removed x) old new ran = absurd ran
  ran_function (Remove specifier) (Analyzed x) old new ran = absurd ran
  ran_function (Remove specifier) (Parsed x) old new ran = absurd ran

  pub runs_function : (commands : List Command) (answers : List Answer) (old new : State P)
      → Runs parses count is_sound may_return old commands answers new → parses new.parser ≡ parses old.parser
  runs_function [] [] old new ran = ap (λ (s : State P). parses s.parser) ran
  runs_function [] (a ∷ rest) old new ran = absurd ran
  runs_function (c ∷ cs) [] old new ran = absurd ran
  runs_function (c ∷ cs) (a ∷ rest) old new (then, first, others) = runs_function cs rest then new others
      ∙ ran_function c a old then first

  failed_function : (command : Command) (old new : State P)
      → RanOutOfMemory parses count is_sound may_return old command new
      → parses new.parser ≡ parses old.parser
  failed_function (Analyze specifier source media_type) old new (inl same) =
      ap (λ (s : State P). parses s.parser) same
  failed_function (Analyze specifier source media_type) old new (inr call) = call.captures.function
  failed_function (Parse specifier source media_type scope) old new (inl same) =
      ap (λ (s : State P). parses s.parser) same
  failed_function (Parse specifier source media_type scope) old new (inr call) = call.function
  failed_function (Remove specifier) old new same = ap (λ (s : State P). parses s.parser) same

  failed_sound : (command : Command) (old new : State P)
      → RanOutOfMemory parses count is_sound may_return old command new → IsSoundState parses is_sound old
      → IsSoundState parses is_sound new
  failed_sound (Analyze specifier source media_type) old new (inl same) sound =
      subst (IsSoundState parses is_sound) (sym same) sound
  failed_sound (Analyze specifier source media_type) old new (inr call) sound = call.captures.sound sound
  failed_sound (Parse specifier source media_type scope) old new (inl same) sound =
      subst (IsSoundState parses is_sound) (sym same) sound
  failed_sound (Parse specifier source media_type scope) old new (inr call) sound = call.sound sound
  failed_sound (Remove specifier) old new same sound = subst (IsSoundState parses is_sound) (sym same) sound

  -- a sound state is the state after no command
  start_is_kept : (old : State P) → IsSoundState parses is_sound old
      → Kept parses count is_sound may_return (parses old.parser) (unmarked_at old.sources) [] old
  unfolding latest
  start_is_kept old sound = record { sound = sound; function = refl; sources = λ key. refl }

  pub run_replies : (commands : List Command) (answers : List Answer) (old new : State P)
      → IsSoundState parses is_sound old → Runs parses count is_sound may_return old commands answers new
      → Replies parses count is_sound may_return (parses old.parser)
      (unmarked_at old.sources) [] commands answers old new
  run_replies commands answers old new sound ran =
      all_replies parses count is_sound may_return (parses old.parser)
      (unmarked_at old.sources) [] commands answers old new (start_is_kept old sound) ran

  pub runs_sound : (commands : List Command) (answers : List Answer) (old new : State P)
      → Runs parses count is_sound may_return old commands answers new → IsSoundState parses is_sound old
      → IsSoundState parses is_sound new
  runs_sound commands answers old new ran sound = (run_replies commands answers old new sound ran).kept.sound

  pub early_function : (commands : List Command) (old new : State P)
      → EndsEarly parses count is_sound may_return old commands new → parses new.parser ≡ parses old.parser
  early_function commands old new early = failed_function early.failed early.then new early.failure
      ∙ runs_function early.before early.answers old early.then early.ran

  pub early_sound : (commands : List Command) (old new : State P)
      → EndsEarly parses count is_sound may_return old commands new → IsSoundState parses is_sound old
      → IsSoundState parses is_sound new
  early_sound commands old new early sound =
      failed_sound early.failed early.then new early.failure
      (runs_sound early.before early.answers old early.then early.ran sound)

  -- a sound state stays sound through a run, also through a run that is out of memory
  pub ends_sound : {A E Same : Type 0} (commands : List Command) (items : A → List Answer)
      (result : Result A E) (old new : State P)
      → IfOk result (λ answers. Runs parses count is_sound may_return old commands (items answers) new)
      → OnErr result (Same ⊎ EndsEarly parses count is_sound may_return old commands new)
      → (Same → new ≡ old) → IsSoundState parses is_sound old → IsSoundState parses is_sound new
  ends_sound commands items (Ok answers) old new ran failed same sound =
      runs_sound commands (items answers) old new ran sound
  ends_sound commands items (Err e) old new ran (inl nothing) same sound =
      subst (IsSoundState parses is_sound) (sym (same nothing)) sound
  ends_sound commands items (Err e) old new ran (inr early) same sound =
      early_sound commands old new early sound

-- an empty store is faithful
pub faithful_empty : (f : ParseFunction) (m : Sources) → m ≡ no_sources → IsFaithful f m
unfolding IsFaithful
faithful_empty f m empty = λ key source at.
    let none = ap (λ sources. source_at sources key) empty ∙ get-empty (slice_cmp nat_cmp) key in
    cc

pub unmarked_at-empty : (m : Sources) → m ≡ no_sources → unmarked_at m ≡ (λ key. None)
unmarked_at-empty m empty = λ i key. (ap (λ sources. option_map unmarked (source_at sources key)) empty
    ∙ ap (option_map unmarked) (get-empty (slice_cmp nat_cmp) key)) i

pub sound_empty : {P : Type 0} (parses : P → ParseFunction) (is_sound : P → Type 0) (old : State P)
    → is_sound old.parser → old.sources ≡ no_sources → IsSoundState parses is_sound old
sound_empty parses is_sound old parser empty =
    record { parser = parser; sources = faithful_empty (parses old.parser) old.sources empty }
