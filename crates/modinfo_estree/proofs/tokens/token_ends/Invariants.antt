-- The ends up to the offset, and the end at the offset.
use Rattle.std.proofs.Common.{◌≡◌}
use Rattle.modinfo_estree.specs.Tokens.{token_end}
use Rattle.modinfo_estree.specs.internal.Marks.{gaps_of}
use Rattle.modinfo_estree.specs.internal.Tables.{at_32nds}
use Rattle.modinfo_estree.proofs.tokens.token_ends.Given as goal

abbrev pub invariant-loop-at : goal.invariant-loop-at
invariant-loop-at l = record {
  ends : l.ends.items ≡ at_32nds (token_end (gaps_of l.marks)) l.at;
  end : l.end ≡ token_end (gaps_of l.marks) l.at;
}
