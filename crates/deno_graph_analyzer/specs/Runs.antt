-- Runs of commands, as relations between the states before and after the run.
use Rattle.std.specs.Prelude.{◌≡◌, ℕ, ◌++◌, ◌⊎◌, false, List, [], ◌∷◌, Option, Result, Ok, Err}
use Rattle.std.specs.Rc.{rc_str_bytes}
use Rattle.deno_graph_source.specs.ParsedSource.{ParsedModule}
use Rattle.deno_graph_info.specs.declared.analysis.module_info.ModuleInfo.{ModuleInfo}
use Rattle.deno_graph_analyzer.specs.Parsing.{ParseFunction, ResultRelation, Input, specifier_text}
use Rattle.deno_graph_analyzer.specs.Sources.{source_at, without_source}
use Rattle.deno_graph_source.specs.declared.tree.parse_error.ParseDiagnostic.{ParseDiagnostic}
use Rattle.deno_graph_source.specs.declared.tree.parse_error.ParseError.{ParseError}
use Rattle.deno_graph_source.specs.declared.tree.parse_error.ParseError.TheVariants as parse
use Rattle.deno_graph_analyzer.specs.Analysis.{IsAnalysisOf}
use Rattle.deno_graph_analyzer.specs.Captures.{State, Captures}
use Rattle.deno_graph_analyzer.specs.Commands.{input}
use Rattle.deno_graph_analyzer.specs.declared.analyzer.AnalyzeError.{AnalyzeError}
use Rattle.deno_graph_analyzer.specs.declared.analyzer.AnalyzeError.TheVariants as analyze
use Rattle.deno_graph_analyzer.specs.declared.run.Command.{Command}
use Rattle.deno_graph_analyzer.specs.declared.run.Command.TheVariants.{Analyze, Parse, Remove}
use Rattle.deno_graph_analyzer.specs.declared.run.Answer.{Answer}
use Rattle.deno_graph_analyzer.specs.declared.run.Answer.TheVariants.{Analyzed, Parsed, Removed}

-- the result of a call, whose error for a diagnostic is made by `error`
abbrev pub with_error : {T E : Type 0} → (ParseDiagnostic → E) → Result T ParseDiagnostic → Result T E
with_error error (Ok value) = Ok value
with_error error (Err diagnostic) = Err (error diagnostic)

module _ {P : Type 0} (parses : P → ParseFunction) (count : P → ℕ) (is_sound : P → Type 0)
    (may_return : P → ResultRelation) where
  -- one call of `analyze_sync`: the text is parsed without the scope option, and then analyzed
  pub record Analyzes (asked : Input) (old : State P) (result : Result ModuleInfo AnalyzeError)
      (new : State P) : Type 0 where
    pub parse_result : Result ParsedModule ParseError
    pub captures : Captures parses count is_sound may_return false asked old parse_result new
    pub analysis : IsAnalysisOf parse_result result

  -- one call of `remove_parsed_source`
  pub record Removes (specifier : List ℕ) (old : State P) (removed : Option ParsedModule)
      (new : State P) : Type 0 where
    pub found : removed ≡ source_at old.sources specifier
    pub sources : new.sources ≡ without_source old.sources specifier
    pub parser : new.parser ≡ old.parser

  -- one command, carried out by the call of its name, with its answer
  abbrev pub Ran : State P → Command → Answer → State P → Type 0
  Ran old (Analyze specifier source media_type) (Analyzed answer) new =
      Analyzes (input specifier (rc_str_bytes source) media_type) old (with_error analyze.Parse answer)
      new
  Ran old (Parse specifier source media_type scope) (Parsed answer) new =
      Captures parses count is_sound may_return scope (input specifier (rc_str_bytes source) media_type)
      old (with_error parse.Diagnostic answer) new
  Ran old (Remove specifier) (Removed found) new = Removes (specifier_text specifier) old found new
  Ran old _ _ new = ⊥

  -- the commands, carried out one after another, with their answers
  abbrev pub Runs : State P → List Command → List Answer → State P → Type 0
  Runs old [] [] new = new ≡ old
  Runs old (command ∷ commands) (answer ∷ answers) new =
      (next : State P) × Ran old command answer next × Runs next commands answers new
  Runs old _ _ new = ⊥

  -- a command that ran out of memory: before the call of its name, or in the call
  abbrev pub RanOutOfMemory : State P → Command → State P → Type 0
  RanOutOfMemory old (Analyze specifier source media_type) new = (new ≡ old)
      ⊎ Analyzes (input specifier (rc_str_bytes source) media_type)
      old (Err analyze.OutOfMemory) new
  RanOutOfMemory old (Parse specifier source media_type scope) new = (new ≡ old)
      ⊎ Captures parses count is_sound may_return scope (input specifier (rc_str_bytes source) media_type)
      old (Err parse.OutOfMemory) new
  RanOutOfMemory old (Remove specifier) new = new ≡ old

  -- a run in which one command ran out of memory, after all commands before it were carried out
  pub record EndsEarly (old : State P) (commands : List Command) (new : State P) : Type 0 where
    pub before : List Command
    pub failed : Command
    pub after : List Command
    pub whole : before ++ failed ∷ after ≡ commands
    pub answers : List Answer
    pub then : State P
    pub ran : Runs old before answers then
    pub failure : RanOutOfMemory then failed new
