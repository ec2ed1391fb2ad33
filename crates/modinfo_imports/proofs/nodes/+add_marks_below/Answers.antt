-- Each turn adds the marks of one more child.
use Rattle.std.proofs.Common.{refl, sym, ◌∙◌}
use Rattle.std.proofs.lemmas.List.{append-nil}
use Rattle.deno_graph_source.specs.Node.{children_of}
use Rattle.modinfo_imports.proofs.ClaimedNodes.{below-all, below-more, below-node}
use Rattle.modinfo_imports.specs.Nodes.{marks_of}
use Rattle.modinfo_imports.proofs.nodes.+add_marks_below.Goals as goal

pub loop-child-init : goal.loop-child-init
loop-child-init t c = c.in_ok-add_mark.ensures ∙ sym (append-nil _)

pub loop-child-preserved : goal.loop-child-preserved
loop-child-preserved t c =
    below-more (marks_of c.args.text.now) c.as_slice-child-items.result.now c.loop-child.child-index
    c.child-item.result _ c.loop-child.marks.items _ c.loop-child-test.true c.child-item.is
    c.loop-child.invariant c.in_ok-add_marks_below.ensures

pub returns : goal.returns
unfolding children_of
returns t c =
    below-node (marks_of c.args.text.now) c.args.node.now c.args.marks.now.items _ c.loop-child.marks.items
    refl
    (below-all (marks_of c.args.text.now) (children_of c.args.node.now) c.as_slice-child-items.result.now
    c.loop-child.child-index _ c.loop-child.marks.items c.as_slice-child-items.ensures
    c.loop-child-test.false c.loop-child.invariant)
