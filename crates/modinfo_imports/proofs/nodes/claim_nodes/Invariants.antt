-- The claims of the nodes so far.
use Rattle.std.proofs.Common.{◌≡◌, ◌++◌, take}
use Rattle.modinfo_imports.proofs.ClaimedNodes.{below}
use Rattle.modinfo_imports.specs.Nodes.{claims_of}
use Rattle.modinfo_imports.proofs.nodes.claim_nodes.Given as goal

abbrev pub invariant-loop-node : goal.invariant-loop-node
invariant-loop-node l =
    l.claims.items ≡ l.fn.claims.items ++ below (claims_of l.text) (take l.node-index l.nodes)
