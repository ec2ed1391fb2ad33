-- The next token is the same at both offsets.
use Rattle.std.proofs.Common.{◌≡◌}
use Rattle.modinfo_estree.specs.Tokens.{token_start}
use Rattle.modinfo_estree.specs.internal.Marks.{gaps_of}
use Rattle.modinfo_estree.proofs.tokens.Tokens.start.Given as goal

abbrev pub invariant-loop-at : goal.invariant-loop-at
invariant-loop-at l = token_start (gaps_of l.marks) l.at ≡ token_start (gaps_of l.marks) l.offset
