-- Each comment so far passes the one before it.
use Rattle.std.proofs.Common.{ℕ, ◌+◌, ◌<◌, get_or}
use Rattle.deno_graph_source.specs.internal.Check.{Passes}
use Rattle.deno_graph_source.proofs.tree.check.comments.check_neighbours.Given as goal

abbrev pub invariant-loop-i : goal.invariant-loop-i
invariant-loop-i l =
    (k : ℕ) → k + 1 < l.i → (d : _) → Passes (get_or l.comments k d).now (get_or l.comments (k + 1) d).now
