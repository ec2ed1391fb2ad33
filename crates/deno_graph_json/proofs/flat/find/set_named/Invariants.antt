-- The elements that are set, followed by the others as they will be.
use Rattle.std.proofs.Common.{◌≡◌, ◌++◌, ◌-◌, length, take, drop}
use Rattle.deno_graph_json.specs.internal.Found.{after_member}
use Rattle.deno_graph_json.proofs.flat.find.set_named.Given as goal

abbrev pub invariant-loop-index : goal.invariant-loop-index
invariant-loop-index l = (length l.found ≡ length l.initial.found)
    × (take l.index l.found ++ after_member (drop l.index l.names) l.key l.value (drop l.index l.found)
    ≡ after_member l.names l.key l.value l.initial.found)

abbrev pub decreases-loop-index : goal.decreases-loop-index
decreases-loop-index l = length l.names - l.index
