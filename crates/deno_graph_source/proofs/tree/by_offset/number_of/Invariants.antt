-- None of the items so far is equal.
use Rattle.std.proofs.Common.{◌≡◌, false, take}
use Rattle.std.specs.List.{All}
use Rattle.deno_graph_source.proofs.tree.by_offset.number_of.Given as goal

abbrev pub invariant-loop-number : goal.invariant-loop-number
invariant-loop-number g l = All (λ item. g.T.PartialEq.eq item l.wanted ≡ false) (take l.number l.items)
