-- The list and the remaining items are the old list and all items.
use Rattle.std.proofs.Common.{◌≡◌, ◌++◌, map}
use Rattle.std.specs.List.{flat_map}
use Rattle.deno_graph_source.specs.ByOffset.{all_items}
use Rattle.deno_graph_source.proofs.tree.by_offset.ByOffset+Items+T.push_items.Given as goal

abbrev pub invariant-loop-items : goal.invariant-loop-items
invariant-loop-items g l =
    map (λ item. item.now) l.all.items
    ++ flat_map (λ items. items) l.items-iterator ≡ map (λ item. item.now) l.initial.all.items
    ++ all_items l.self
