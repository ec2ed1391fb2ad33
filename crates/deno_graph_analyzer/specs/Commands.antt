-- Commands, and the answers that the parser alone would give to a list of commands.
use Rattle.std.specs.Prelude.{◌≡◌, ℕ, ◌+◌, Bool, false, not, ◌&&◌, if◌then◌else◌, List, [], ◌∷◌, Option, Some}
use Rattle.std.specs.Prelude.{None, option_map, Ok, Err}
use Rattle.std.specs.Option.{option_or}
use Rattle.std.specs.Rc.{rc_str_bytes}
use Rattle.std.specs.Str.{bytes_eq}
use Rattle.url.specs.Parts.{Parts}
use Rattle.deno_graph_source.specs.Comments.{FiledComments}
use Rattle.deno_graph_source.specs.ParsedSource.{ParsedModule}
use Rattle.deno_graph_source.specs.declared.tree.media_type.MediaType.{MediaType}
use Rattle.deno_graph_source.specs.contracts.tree.media_type.MediaTypePartialEq.TheImpl as media_types
use Rattle.deno_graph_source.specs.declared.tree.node.Program.{Program}
use Rattle.deno_graph_analyzer.specs.Parsing.{ParseFunction, Input, Outcome, parsed, rejected, specifier_text}
use Rattle.deno_graph_analyzer.specs.Parsing.{input_of, IsParsed}
use Rattle.deno_graph_analyzer.specs.Sources.{Sources, source_at}
use Rattle.deno_graph_analyzer.specs.Analysis.{IsInfoOf}
use Rattle.deno_graph_analyzer.specs.declared.run.Command.{Command}
use Rattle.deno_graph_analyzer.specs.declared.run.Command.TheVariants.{Analyze, Parse, Remove}
use Rattle.deno_graph_analyzer.specs.declared.run.Answer.{Answer}
use Rattle.deno_graph_analyzer.specs.declared.run.Answer.TheVariants.{Analyzed, Parsed, Removed}

-- two commands of one kind, with equal specifiers, texts and options
abbrev pub IsCommand : Command → Command → Type 0
IsCommand (Analyze specifier source media_type) (Analyze specifier' source' media_type') =
    (specifier' ≡ specifier) × (rc_str_bytes source' ≡ rc_str_bytes source) × (media_type' ≡ media_type)
IsCommand (Parse specifier source media_type scope) (Parse specifier' source' media_type' scope') =
    (specifier' ≡ specifier) × (rc_str_bytes source' ≡ rc_str_bytes source) × (media_type' ≡ media_type)
    × (scope' ≡ scope)
IsCommand (Remove specifier) (Remove specifier') = specifier' ≡ specifier
IsCommand _ _ = ⊥

-- a parsed source without its mark
pub record Unmarked : Type 0 where
  pub input : Input
  pub program : Program
  pub comments : FiledComments

abbrev pub unmarked : ParsedModule → Unmarked
unmarked source = record {
  input = input_of source;
  program = source.program;
  comments = source.comments;
}

-- the source under a specifier, without its mark
abbrev pub unmarked_at : Sources → List ℕ → Option Unmarked
unmarked_at sources key = option_map unmarked (source_at sources key)

-- the source of an outcome: none for a diagnostic
abbrev pub source_of_outcome : Input → Option Outcome → Option Unmarked
source_of_outcome input (Some (parsed program comments)) =
    Some (record { input = input; program = program; comments = comments })
source_of_outcome input (Some (rejected diagnostic)) = None
source_of_outcome input None = None

-- the input of a command
abbrev pub input : Parts → List ℕ → MediaType → Input
input specifier text media_type = record {
  specifier = specifier_text specifier;
  text = text;
  media_type = media_type;
}

-- The source of the last successful Analyze or Parse of a specifier since the last Remove of the
-- specifier. Without either, the source at the start. The newest of the past commands is the first in the
-- list.
module _ (parses : ParseFunction) (start : List ℕ → Option Unmarked) where
  unfoldable pub latest : List Command → List ℕ → Option Unmarked
  latest [] key = start key
  latest (Analyze specifier source media_type ∷ past) key =
      let asked = input specifier (rc_str_bytes source) media_type in
      if bytes_eq asked.specifier key
      then option_or (source_of_outcome asked (parses asked)) (latest past key)
      else latest past key
  latest (Parse specifier source media_type scope ∷ past) key =
      let asked = input specifier (rc_str_bytes source) media_type in
      if bytes_eq asked.specifier key
      then option_or (source_of_outcome asked (parses asked)) (latest past key)
      else latest past key
  latest (Remove specifier ∷ past) key =
      if bytes_eq (specifier_text specifier) key then None else latest past key

-- the source has the text and the media type of the input
abbrev pub has_text : Input → Option Unmarked → Bool
has_text asked None = false
has_text asked (Some source) = bytes_eq source.input.text asked.text
    && (media_types.ghosts).eq source.input.media_type asked.media_type

module _ (parses : ParseFunction) (start : List ℕ → Option Unmarked) where
  -- a command for which the parser has to be called: the specifier has no latest source, or a source with
  -- another text or media type
  abbrev pub is_miss : List Command → Command → Bool
  is_miss past (Analyze specifier source media_type) =
      let asked = input specifier (rc_str_bytes source) media_type in
      not (has_text asked (latest parses start past asked.specifier))
  is_miss past (Parse specifier source media_type scope) =
      let asked = input specifier (rc_str_bytes source) media_type in
      not (has_text asked (latest parses start past asked.specifier))
  is_miss past (Remove specifier) = false

  -- the number of misses among the commands, which follow the past commands
  abbrev pub misses : List Command → List Command → ℕ
  misses past [] = 0
  misses past (command ∷ commands) =
      (if is_miss past command then 1 else 0) + misses (command ∷ past) commands

  -- the answer is that of the parser alone; to a Remove it is the latest source of the specifier
  abbrev pub IsAnswer : List Command → Command → Answer → Type 0
  IsAnswer past (Analyze specifier source media_type) (Analyzed (Ok info)) =
      IsInfoOf parses (input specifier (rc_str_bytes source) media_type) info
  IsAnswer past (Analyze specifier source media_type) (Analyzed (Err diagnostic)) =
      parses (input specifier (rc_str_bytes source) media_type) ≡ Some (rejected diagnostic)
  IsAnswer past (Parse specifier source media_type scope) (Parsed (Ok module_source)) =
      IsParsed parses (input specifier (rc_str_bytes source) media_type) module_source
  IsAnswer past (Parse specifier source media_type scope) (Parsed (Err diagnostic)) =
      parses (input specifier (rc_str_bytes source) media_type) ≡ Some (rejected diagnostic)
  IsAnswer past (Remove specifier) (Removed found) =
      option_map unmarked found ≡ latest parses start past (specifier_text specifier)
  IsAnswer past _ _ = ⊥

  -- one answer for each command, in order
  abbrev pub AreAnswers : List Command → List Command → List Answer → Type 0
  AreAnswers past [] [] = Unit {0}
  AreAnswers past (command ∷ commands) (answer ∷ answers) =
      IsAnswer past command answer × AreAnswers (command ∷ past) commands answers
  AreAnswers past _ _ = ⊥
