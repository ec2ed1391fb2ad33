-- The list is the old list and the items so far.
use Rattle.std.proofs.Common.{◌≡◌, ◌++◌, map, take}
use Rattle.deno_graph_source.proofs.tree.by_offset.push_each.Given as goal

abbrev pub invariant-loop-item : goal.invariant-loop-item
invariant-loop-item g l =
    map (λ item. item.now) l.all.items ≡ map (λ item. item.now) l.initial.all.items
    ++ take l.item-index l.items
