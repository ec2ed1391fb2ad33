-- Each turn adds the claims of one more child.
use Rattle.std.proofs.Common.{refl, sym, ◌∙◌}
use Rattle.std.proofs.lemmas.List.{append-nil}
use Rattle.deno_graph_source.specs.Node.{children_of}
use Rattle.modinfo_imports.proofs.ClaimedNodes.{below-all, below-more, below-node}
use Rattle.modinfo_imports.specs.Nodes.{claims_of}
use Rattle.modinfo_imports.proofs.nodes.+claim_below.Goals as goal

pub loop-child-init : goal.loop-child-init
loop-child-init t c = c.in_ok-claim_node.ensures ∙ sym (append-nil _)

pub loop-child-preserved : goal.loop-child-preserved
loop-child-preserved t c =
    below-more (claims_of c.args.text.now) c.as_slice-child-items.result.now c.loop-child.child-index
    c.child-item.result _ c.loop-child.claims.items _ c.loop-child-test.true c.child-item.is
    c.loop-child.invariant c.in_ok-claim_below.ensures

pub returns : goal.returns
unfolding children_of
returns t c =
    below-node (claims_of c.args.text.now) c.args.node.now c.args.claims.now.items _
    c.loop-child.claims.items refl
    (below-all (claims_of c.args.text.now) (children_of c.args.node.now) c.as_slice-child-items.result.now
    c.loop-child.child-index _ c.loop-child.claims.items c.as_slice-child-items.ensures
    c.loop-child-test.false c.loop-child.invariant)
