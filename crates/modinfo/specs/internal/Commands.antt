-- The only command line that words may ask for.
use Rattle.std.specs.Prelude.{ℕ, List, [], ◌∷◌, codes, ◌||◌, if◌then◌else◌}
use Rattle.std.specs.Str.{bytes_eq}
use Rattle.modinfo.specs.CommandLine.{asks_for_help, asks_for_version}
use Rattle.modinfo.specs.Words.{is_among}
use Rattle.modinfo.specs.declared.command.Command.{Command}
use Rattle.modinfo.specs.declared.command.Command.TheVariants.{Answer, Check}
use Rattle.modinfo.specs.declared.command_line.CommandLine.{CommandLine}
use Rattle.modinfo.specs.declared.command_line.CommandLine.TheVariants.{Help, Version, Document, Lines, Files}
use Rattle.modinfo.specs.declared.command_line.Names.{Names}
use Rattle.modinfo.specs.declared.command_line.Names.TheVariants.{Arguments, Zeros, Lines as FromLines}
use Rattle.modinfo.specs.declared.format.Format.{Format}
use Rattle.modinfo.specs.declared.format.Format.TheVariants.{Module, Estree, Source, Stored, Modules}

-- The format of the only command that words may ask for.
abbrev pub asked_format : List ℕ → List (List ℕ) → Format
asked_format name words =
    if bytes_eq name (codes "convert") || is_among (codes "convert") words then Stored
    else if bytes_eq name (codes "reach") || is_among (codes "reach") words then Modules
    else if is_among (codes "--estree") words then Estree
    else if is_among (codes "--source") words then Source
    else Module

-- The only command that words may ask for.
abbrev pub asked_command : List ℕ → List (List ℕ) → Command
asked_command name words =
    if bytes_eq name (codes "check") then Check (asked_format name words) (is_among (codes "--strict") words)
    else Answer (asked_format name words)

-- Where the names of files may be.
abbrev pub asked_names : List (List ℕ) → Names
asked_names [] = FromLines
asked_names (word ∷ []) = if bytes_eq word (codes "--null") then Zeros else Arguments
asked_names (first ∷ second ∷ words) = Arguments

-- The only command line that words may ask for.
abbrev pub asked_line : List (List ℕ) → CommandLine
asked_line [] = Help
asked_line (name ∷ words) =
    if asks_for_help (name ∷ words) then Help
    else if asks_for_version (name ∷ words) then Version
    else if bytes_eq name (codes "files") then Files (asked_names words)
    else if is_among (codes "--lines") words then Lines (asked_command name words)
    else Document (asked_command name words)
