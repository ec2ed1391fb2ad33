use Rattle.std.proofs.Common.{ap, ◌∙◌}
use Rattle.deno_graph_json.specs.Read.Partial.{◌>>=◌}
use Rattle.modinfo_document.specs.Node.{reads_node}
use Rattle.modinfo_document.proofs.Places.{node_leads}
use Rattle.modinfo_document.proofs.laws.nodes_are_at_their_paths.Goals as goal

pub returns : goal.returns
returns c = λ value contents is path node found.
    let leads = node_leads value contents is path node found in
    ap (λ o. o >>= reads_node) leads.1 ∙ leads.2
