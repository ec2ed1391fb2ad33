-- The tables of tokens.
use Rattle.std.specs.Prelude.{◌≡◌, ℕ, Bool, List, length}
use Rattle.modinfo_estree.specs.Tokens.{is_on_line, token_end, token_start}
use Rattle.modinfo_estree.specs.declared.marks.Mark.{Mark}
use Rattle.modinfo_estree.specs.internal.Marks.{breaks_of, gaps_of}
use Rattle.modinfo_estree.specs.internal.Tables.{at_32nds}

-- The starts, the ends and the lines of the tokens of a text with these marks, at each 32nd offset.
pub record AreTables (marks : List Mark) (starts ends : List ℕ) (on_line : List Bool) : Type 0 where
  pub each_start : starts ≡ at_32nds (token_start (gaps_of marks)) (length marks)
  pub each_end : ends ≡ at_32nds (token_end (gaps_of marks)) (length marks)
  pub each_on_line : on_line ≡ at_32nds (is_on_line (breaks_of marks) (gaps_of marks)) (length marks)
