-- The first node of a program.
use Rattle.std.specs.Prelude.{◌≡◌, Some, slice_get}
use Rattle.std.specs.List.{Contains, All}
use Rattle.std.proofs.Common.{subst}
use Rattle.std.proofs.lemmas.List.Elements.{Contains-get_or}
use Rattle.std.proofs.lemmas.Option.{get_or_from_slice_get, slice_get_within}
use Rattle.deno_graph_source.specs.Node.{nodes_in, nodes_of, IsShaped}
use Rattle.deno_graph_source.specs.declared.tree.node.Node.{Node}
use Rattle.deno_graph_source.specs.declared.tree.node.Program.{Program}
use Rattle.deno_graph_source.proofs.Lists.{All-within, Contains-flat_map}

-- If all nodes of a program have the children that they need, so do the nodes of the first one.
pub shaped_first : (program : Program) (node : Node) → All IsShaped (nodes_of program)
    → slice_get program.body 0 ≡ Some node → All IsShaped (nodes_in node)
unfolding nodes_of
shaped_first program node shaped first =
    let at : Contains program.body node =
    subst (Contains program.body) (get_or_from_slice_get program.body 0 node node first)
    (Contains-get_or program.body 0 node (slice_get_within program.body 0 node first)) in
    All-within IsShaped (nodes_of program) (nodes_in node)
    (λ n h. Contains-flat_map nodes_in program.body node n at h) shaped
