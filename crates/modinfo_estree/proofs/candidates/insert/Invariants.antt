-- The names so far are below the name, which is inserted among the others.
use Rattle.std.proofs.Common.{◌≡◌, ◌++◌, ◌≤◌, ◌-◌, length, map, drop, take}
use Rattle.deno_graph_base.specs.TextMap.{insert_entry}
use Rattle.modinfo_estree.specs.internal.Candidates.{entry_of}
use Rattle.modinfo_estree.proofs.candidates.insert.Given as goal

abbrev pub invariant-loop-at : goal.invariant-loop-at
invariant-loop-at l = (l.at ≤ length l.found.items) × (l.found.items ≡ l.initial.found.items)
    × (insert_entry (map entry_of l.found.items) l.name l.value
    ≡ map entry_of (take l.at l.found.items)
    ++ insert_entry (map entry_of (drop l.at l.found.items)) l.name l.value)

abbrev pub decreases-loop-at : goal.decreases-loop-at
decreases-loop-at l = length l.found.items - l.at
