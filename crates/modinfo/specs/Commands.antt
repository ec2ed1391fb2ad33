-- The table of commands: the words of each, and its number.
use Rattle.std.specs.Prelude.{◌&&◌, ◌==◌, ℕ, List, [], ◌∷◌, codes, Bool, true, false, not, Option, None, Some}
use Rattle.std.specs.Prelude.{if◌then◌else◌}
use Rattle.std.specs.Str.{bytes_eq}
use Rattle.modinfo.specs.Words.{are_among, are_distinct, is_among}
use Rattle.modinfo.specs.declared.command.Command.{Command}
use Rattle.modinfo.specs.declared.command.Command.TheVariants.{Answer, Check}
use Rattle.modinfo.specs.declared.format.Format.TheVariants.{Module, Estree, Source, Stored, Modules}

-- The first word of a command.
abbrev pub name_of : Command → List ℕ
name_of (Answer Module) = codes "analyze"
name_of (Answer Estree) = codes "analyze"
name_of (Answer Source) = codes "analyze"
name_of (Answer Stored) = codes "convert"
name_of (Answer Modules) = codes "reach"
name_of (Check format is_strict) = codes "check"

-- The words that have to follow the first.
abbrev pub needed_words : Command → List (List ℕ)
needed_words (Answer Module) = []
needed_words (Answer Estree) = codes "--estree" ∷ []
needed_words (Answer Source) = codes "--source" ∷ []
needed_words (Answer Stored) = []
needed_words (Answer Modules) = []
needed_words (Check Module is_strict) = []
needed_words (Check Estree is_strict) = codes "--estree" ∷ []
needed_words (Check Source is_strict) = codes "--source" ∷ []
needed_words (Check Stored is_strict) = codes "convert" ∷ []
needed_words (Check Modules is_strict) = codes "reach" ∷ []

-- The words that may follow the first.
abbrev pub allowed_words : Command → List (List ℕ)
allowed_words (Answer Module) = codes "--lines" ∷ []
allowed_words (Answer Estree) = codes "--estree" ∷ codes "--lines" ∷ []
allowed_words (Answer Source) = codes "--source" ∷ codes "--lines" ∷ []
allowed_words (Answer Stored) = codes "--lines" ∷ []
allowed_words (Answer Modules) = codes "--lines" ∷ []
allowed_words (Check Module is_strict) = codes "analyze" ∷ codes "--lines" ∷ codes "--strict" ∷ []
allowed_words (Check Estree is_strict) =
    codes "analyze" ∷ codes "--estree" ∷ codes "--lines" ∷ codes "--strict" ∷ []
allowed_words (Check Source is_strict) =
    codes "analyze" ∷ codes "--source" ∷ codes "--lines" ∷ codes "--strict" ∷ []
allowed_words (Check Stored is_strict) = codes "convert" ∷ codes "--lines" ∷ codes "--strict" ∷ []
allowed_words (Check Modules is_strict) = codes "reach" ∷ codes "--lines" ∷ codes "--strict" ∷ []

-- Whether a check is strict exactly if `--strict` is among the words.
abbrev pub has_strictness : Command → List (List ℕ) → Bool
has_strictness (Answer format) words = true
has_strictness (Check format true) words = is_among (codes "--strict") words
has_strictness (Check format false) words = not (is_among (codes "--strict") words)

-- Whether a name and the words after it ask for the command. The words after the name come in any order, each
-- at most once.
abbrev pub has_words : Command → List ℕ → List (List ℕ) → Bool
has_words command name words = bytes_eq name (name_of command)
    && (are_among (needed_words command) words
    && (are_among words (allowed_words command)
    && (are_distinct words && has_strictness command words)))

-- The command with a number, if there is one. A strict check has no number.
abbrev pub command_at : ℕ → Option Command
command_at number =
    if number == 0 then Some (Answer Module)
    else if number == 1 then Some (Answer Stored)
    else if number == 2 then Some (Answer Modules)
    else if number == 3 then Some (Check Module false)
    else if number == 4 then Some (Check Stored false)
    else if number == 5 then Some (Check Modules false)
    else if number == 6 then Some (Answer Estree)
    else if number == 7 then Some (Check Estree false)
    else if number == 8 then Some (Answer Source)
    else if number == 9 then Some (Check Source false)
    else None
