-- The answers up to the offset, and the answer at the offset.
use Rattle.std.proofs.Common.{◌≡◌}
use Rattle.modinfo_estree.specs.Tokens.{is_on_line}
use Rattle.modinfo_estree.specs.internal.Marks.{breaks_of, gaps_of}
use Rattle.modinfo_estree.specs.internal.Tables.{at_32nds}
use Rattle.modinfo_estree.proofs.tokens.offsets_on_line.Given as goal

abbrev pub invariant-loop-at : goal.invariant-loop-at
invariant-loop-at l = record {
  on_line : l.on_line.items ≡ at_32nds (is_on_line (breaks_of l.marks) (gaps_of l.marks)) l.at;
  is_on_line : l.is_on_line ≡ is_on_line (breaks_of l.marks) (gaps_of l.marks) l.at;
}
