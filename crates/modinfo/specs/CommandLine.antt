-- The words of command lines.
use Rattle.std.specs.Prelude.{◌&&◌, ◌==◌, ℕ, List, [], ◌∷◌, codes, Bool, true, false, not}
use Rattle.std.specs.Str.{bytes_eq}
use Rattle.modinfo.specs.Commands.{has_words}
use Rattle.modinfo.specs.Words.{is_among}
use Rattle.modinfo.specs.declared.command_line.CommandLine.{CommandLine}
use Rattle.modinfo.specs.declared.command_line.CommandLine.TheVariants.{Help, Version, Document, Lines, Files}
use Rattle.modinfo.specs.declared.command_line.Names.{Names}
use Rattle.modinfo.specs.declared.command_line.Names.TheVariants.{Arguments, Zeros, Lines as FromLines}

-- The names of all commands.
abbrev pub command_names : List (List ℕ)
command_names = codes "analyze" ∷ codes "convert" ∷ codes "reach" ∷ codes "check"
    ∷ codes "files" ∷ []

-- Whether the words are `--help`, `-h`, or the name of a command and `--help`.
abbrev pub asks_for_help : List (List ℕ) → Bool
asks_for_help [] = false
asks_for_help (word ∷ []) = is_among word (codes "--help" ∷ codes "-h" ∷ [])
asks_for_help (name ∷ word ∷ []) = bytes_eq word (codes "--help") && is_among name command_names
asks_for_help (first ∷ second ∷ third ∷ words) = false

-- Whether the words are `--version` or `-V`.
abbrev pub asks_for_version : List (List ℕ) → Bool
asks_for_version [] = false
asks_for_version (word ∷ []) = is_among word (codes "--version" ∷ codes "-V" ∷ [])
asks_for_version (first ∷ second ∷ words) = false

-- Whether no word begins with `-`.
abbrev pub are_names : List (List ℕ) → Bool
are_names [] = true
are_names ([] ∷ words) = are_names words
are_names ((byte ∷ bytes) ∷ words) = not (byte == 45) && are_names words

-- Whether the words after `files` are the names of files, or ask for names in the input.
abbrev pub names_have_words : Names → List (List ℕ) → Bool
names_have_words FromLines [] = true
names_have_words FromLines (word ∷ words) = false
names_have_words Zeros [] = false
names_have_words Zeros (word ∷ []) = bytes_eq word (codes "--null")
names_have_words Zeros (first ∷ second ∷ words) = false
names_have_words Arguments [] = false
names_have_words Arguments (word ∷ words) = are_names (word ∷ words)

-- Whether the words ask for the command line.
abbrev pub asks_for : CommandLine → List (List ℕ) → Bool
asks_for Help words = asks_for_help words
asks_for Version words = asks_for_version words
asks_for (Document command) [] = false
asks_for (Document command) (name ∷ words) =
    not (is_among (codes "--lines") words) && has_words command name words
asks_for (Lines command) [] = false
asks_for (Lines command) (name ∷ words) =
    is_among (codes "--lines") words && has_words command name words
asks_for (Files names) [] = false
asks_for (Files names) (name ∷ words) = bytes_eq name (codes "files") && names_have_words names words
