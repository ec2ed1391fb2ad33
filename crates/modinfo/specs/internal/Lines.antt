-- Taking lines from an input.
use Rattle.std.specs.Io.KnownBytes.{IsAtEnd}
use Rattle.std.specs.Prelude.{◌≡◌, ◌++◌, ℕ, List, [], ◌∷◌, Option, None, Some}
use Rattle.modinfo.specs.Lines.{ended_by}
use Rattle.modinfo.specs.declared.lines.Next.{Next}
use Rattle.modinfo.specs.declared.lines.Next.TheVariants.{End, Line, Skipped}

-- These parts, which a byte ends, were taken from the front of an input whose bytes are known.
abbrev pub Takes : ℕ → Option (List ℕ) → Option (List ℕ) → List (List ℕ) → Type 0
Takes end None new parts = Unit {0}
Takes end (Some text) None parts = ⊥
Takes end (Some text) (Some left) parts = ended_by end text ≡ parts ++ ended_by end left

-- These lines were taken.
abbrev pub TakesLines : Option (List ℕ) → Option (List ℕ) → List (List ℕ) → Type 0
TakesLines old new lines = Takes 10 old new lines

-- The first line was taken from the input, to be read or skipped; or no line is left.
abbrev pub TakesNext : Option (List ℕ) → Option (List ℕ) → Next → Type 0
TakesNext old new (Line bytes) = TakesLines old new (bytes.items ∷ [])
TakesNext old new Skipped = (line : List ℕ) × TakesLines old new (line ∷ [])
TakesNext old new End = IsAtEnd old
