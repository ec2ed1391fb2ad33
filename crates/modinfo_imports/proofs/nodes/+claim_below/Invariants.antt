-- The claims of a node and of the children so far.
use Rattle.std.proofs.Common.{◌≡◌, ◌++◌, take}
use Rattle.modinfo_imports.proofs.ClaimedNodes.{below}
use Rattle.modinfo_imports.specs.Nodes.{claims_of}
use Rattle.modinfo_imports.proofs.nodes.+claim_below.Given as goal

abbrev pub invariant-loop-child : goal.invariant-loop-child
invariant-loop-child l =
    l.claims.items
    ≡ (l.fn.claims.items ++ claims_of l.text l.node)
    ++ below (claims_of l.text) (take l.child-index l.child-items)
