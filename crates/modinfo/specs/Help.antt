-- The text for words that ask for help.
use Rattle.std.specs.Prelude.{ℕ, List, [], ◌∷◌, codes, if◌then◌else◌}
use Rattle.std.specs.Str.{bytes_eq}

-- Of the text on all commands and the texts on each, the text on the command that the first word names. Where
-- the first word names no command, as `--help` doesn't, the text on all commands.
abbrev pub help_on : List ℕ → List ℕ → List ℕ → List ℕ → List ℕ → List ℕ → List (List ℕ) → List ℕ
help_on all files analyze check convert reach [] = all
help_on all files analyze check convert reach (name ∷ words) =
    if bytes_eq name (codes "files") then files
    else if bytes_eq name (codes "analyze") then analyze
    else if bytes_eq name (codes "check") then check
    else if bytes_eq name (codes "convert") then convert
    else if bytes_eq name (codes "reach") then reach
    else all
