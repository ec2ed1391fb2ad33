-- The results of the finders, as values.
use Rattle.std.specs.Prelude.{◌↔◌, ℕ, List, Option, IfSome, IsNone}
use Rattle.deno_graph_pragmas.specs.Split.{Pattern, TextPart, HasSplit, IsCaptured, IsSliceOf, IsInQuotes}
use Rattle.deno_graph_pragmas.specs.declared.finders.matches.DenoTypesPragmaMatch.{DenoTypesPragmaMatch}
use Rattle.deno_graph_pragmas.specs.declared.finders.matches.Match.{Match}

abbrev pub match_part_of : Match → TextPart
match_part_of found = record { text = found.text.now; start = found.start; end = found.end }

abbrev pub pragma_part_of : DenoTypesPragmaMatch → TextPart
pragma_part_of found = record { text = found.text.now; start = found.range.start; end = found.range.end }

-- the match is the part that the first split of the text captures
abbrev pub IsCapturedIn : Pattern → List ℕ → Match → Type 0
IsCapturedIn pattern text found = IsCaptured pattern text (match_part_of found)

-- the match is the slice of the text at its range
abbrev pub IsSliceIn : List ℕ → Match → Type 0
IsSliceIn text found = IsSliceOf text (match_part_of found)

-- the match has quotes around it
abbrev pub IsQuotedIn : List ℕ → Match → Type 0
IsQuotedIn text found = IsInQuotes text (match_part_of found)

-- a finder returns the part that the first split of the text captures, which is a slice of the text, and None
-- exactly where the text has no split
pub record FindsFirst (pattern : Pattern) (text : List ℕ) (result : Option Match) : Type 0 where
  pub found : IfSome result (IsCapturedIn pattern text)
  pub none : IsNone result ↔ ¬ HasSplit pattern text
  pub slice : IfSome result (IsSliceIn text)

-- the same for a finder whose pattern has quotes around the captured part
pub record FindsFirstInQuotes (pattern : Pattern) (text : List ℕ) (result : Option Match) : Type 0 where
  pub found : IfSome result (IsCapturedIn pattern text)
  pub none : IsNone result ↔ ¬ HasSplit pattern text
  pub slice : IfSome result (IsSliceIn text)
  pub quotes : IfSome result (IsQuotedIn text)
