-- Parentheses around the callees and the arguments of calls. The tree of a parser has none, so the text has
-- to tell.
use Rattle.std.specs.Prelude.{ℕ, zero, suc, ◌==◌, ◌&&◌, ◌+◌, ◌-◌, Bool, false, Some, None, Option, nat_le}
use Rattle.std.specs.Prelude.{nat_lt, slice_get, if◌then◌else◌}
use Rattle.deno_graph_base.specs.declared.text.position.SourceRange.{SourceRange}
use Rattle.modinfo_estree.specs.Source.{EstreeSource, gaps}
use Rattle.modinfo_estree.specs.Tokens.{token_end, token_start}

-- Whether a byte of a text is this one.
abbrev pub is_byte : ℕ → Option ℕ → Bool
is_byte byte None = false
is_byte byte (Some found) = found == byte

module _ (source : EstreeSource) where
  -- The range of the pair of parentheses around a range.
  abbrev pub outside : SourceRange → SourceRange
  outside range = record {
    start = token_end (gaps source) range.start - 1;
    end = token_start (gaps source) range.end + 1;
  }

  -- Whether parentheses are the next tokens on both sides of a range, the first at the start of `bounds` or
  -- after it, and the second before the end of `bounds`.
  abbrev pub has_pair : SourceRange → SourceRange → Bool
  has_pair bounds range =
      nat_lt 0 (token_end (gaps source) range.start)
      && is_byte 40 (slice_get source.text (token_end (gaps source) range.start - 1))
      && is_byte 41 (slice_get source.text (token_start (gaps source) range.end))
      && nat_le bounds.start (token_end (gaps source) range.start - 1)
      && nat_lt (token_start (gaps source) range.end + 1) bounds.end

  -- The pair of parentheses around a range, if there is one.
  abbrev pub pair_around : SourceRange → SourceRange → Option SourceRange
  pair_around bounds range = if has_pair bounds range then Some (outside range) else None

  -- The range with at most `count` pairs of parentheses around it.
  unfoldable pub with_parentheses : ℕ → SourceRange → SourceRange → SourceRange
  with_parentheses zero bounds range = range
  with_parentheses (suc count) bounds range =
      if has_pair bounds range then with_parentheses count bounds (outside range) else range

  -- The range of the callee or of an argument of a call with the parentheses around it, within these bounds:
  -- at most the innermost 256 pairs, so that many nodes of one range don't read the same pairs again.
  abbrev pub extent_in_call : SourceRange → SourceRange → SourceRange
  extent_in_call bounds range = with_parentheses 256 bounds range
