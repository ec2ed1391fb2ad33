-- The starts from the offset on, and the first of them.
use Rattle.std.proofs.Common.{◌≡◌, ◌+◌, ◌*◌, ◌/◌, ◌≤◌, ℕ, get_or, length}
use Rattle.modinfo_estree.specs.Tokens.{token_start}
use Rattle.modinfo_estree.specs.internal.Marks.{gaps_of}
use Rattle.modinfo_estree.proofs.tokens.token_starts.Given as goal

abbrev pub invariant-loop-at : goal.invariant-loop-at
invariant-loop-at l = record {
  size : length l.starts.items ≡ length l.marks / 32 + 1;
  starts : (k : ℕ) → l.at ≤ 32 * k → k ≤ length l.marks / 32
      → get_or l.starts.items k 0 ≡ token_start (gaps_of l.marks) (32 * k);
  start : l.start ≡ token_start (gaps_of l.marks) l.at;
}
