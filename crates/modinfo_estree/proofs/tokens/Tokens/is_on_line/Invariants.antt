-- Both offsets are on the line of the last token, or none.
use Rattle.std.proofs.Common.{◌≡◌}
use Rattle.modinfo_estree.specs.Tokens.{is_on_line}
use Rattle.modinfo_estree.specs.internal.Marks.{breaks_of, gaps_of}
use Rattle.modinfo_estree.proofs.tokens.Tokens.is_on_line.Given as goal

abbrev pub invariant-loop-at : goal.invariant-loop-at
invariant-loop-at l = is_on_line (breaks_of l.marks) (gaps_of l.marks) l.at
    ≡ is_on_line (breaks_of l.marks) (gaps_of l.marks) l.offset
