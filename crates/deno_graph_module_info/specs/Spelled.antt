-- The bytes of a source at a range by positions.
use Rattle.std.specs.Prelude.{◌≡◌, ◌⊎◌, ℕ, List, [], ◌∷◌, ◌++◌, IsTrue}
use Rattle.deno_graph_base.specs.PositionRange.{IsRangeAt}
use Rattle.deno_graph_base.specs.SourceRange.{IsTextRange, slice_of}
use Rattle.deno_graph_base.specs.declared.text.position.PositionRange.{PositionRange}
use Rattle.deno_graph_base.specs.declared.text.position.SourceRange.{SourceRange}
use Rattle.deno_graph_info.specs.declared.analysis.specifier_with_range.SpecifierWithRange.{SpecifierWithRange}
use Rattle.deno_graph_pragmas.specs.Piece.{is_quote}

-- the source has these bytes between the boundaries with the two positions
pub record HasBetween (source : List ℕ) (positions : PositionRange) (bytes : List ℕ) : Type 0 where
  pub range : SourceRange
  pub is_text_range : IsTextRange source range
  pub is_at : IsRangeAt source positions range
  pub slice : slice_of source range ≡ bytes

-- the range covers exactly the specifier
abbrev pub CoversBare : List ℕ → SpecifierWithRange → Type 0
CoversBare source specifier = HasBetween source specifier.range specifier.text

-- the range covers exactly the specifier with a quote on each side; the two quotes may differ
pub record CoversQuoted (source : List ℕ) (specifier : SpecifierWithRange) : Type 0 where
  pub left : ℕ
  pub right : ℕ
  pub left_quote : IsTrue (is_quote left)
  pub right_quote : IsTrue (is_quote right)
  pub between : HasBetween source specifier.range (left ∷ (specifier.text ++ right ∷ []))

-- the range covers exactly the specifier between two equal quotes
abbrev pub CoversInSameQuotes : List ℕ → SpecifierWithRange → Type 0
CoversInSameQuotes source specifier =
    (quoted : CoversQuoted source specifier) × (quoted.left ≡ quoted.right)

-- the range covers exactly the specifier, without quotes or with a quote on each side
abbrev pub CoversAsWritten : List ℕ → SpecifierWithRange → Type 0
CoversAsWritten source specifier = CoversBare source specifier ⊎ CoversQuoted source specifier
