-- None of the items at the offsets so far is equal.
use Rattle.std.proofs.Common.{◌≡◌, false, map}
use Rattle.std.specs.List.{All}
use Rattle.std.specs.Map.Iter.{deref_pair}
use Rattle.deno_graph_source.specs.ByOffset.{all_items}
use Rattle.deno_graph_source.proofs.tree.by_offset.ByOffset+Items+T.find.Given as goal

abbrev pub invariant-loop-pos : goal.invariant-loop-pos
invariant-loop-pos g l =
    All (λ item. g.T.PartialEq.eq item l.wanted ≡ false) (all_items (map deref_pair l.yielded))
