-- `count` and `end` are those of the bytes so far.
use Rattle.std.proofs.Common.{◌≡◌, ◌≢◌, ℕ, ◌==◌, ◌-◌, ◌<◌, ◌≤◌, count_by, slice_index, take}
use Rattle.deno_graph_base.proofs.text.bytes.line_feeds.Given as goal

abbrev pub invariant-loop-i : goal.invariant-loop-i
invariant-loop-i l = record {
  count : l.count ≡ count_by (λ b. b == 10) (take l.i l.bytes);
  bound : l.end ≤ l.i;
  last : 0 < l.end → slice_index l.bytes (l.end - 1) ≡ 10;
  after : (k : ℕ) → l.end ≤ k → k < l.i → slice_index l.bytes k ≢ 10;
}
