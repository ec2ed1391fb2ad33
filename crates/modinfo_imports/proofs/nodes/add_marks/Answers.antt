-- Each turn adds the marks of one more node.
use Rattle.std.proofs.Common.{refl, sym}
use Rattle.std.proofs.lemmas.List.{append-nil}
use Rattle.modinfo_imports.proofs.ClaimedNodes.{below-all, below-more}
use Rattle.modinfo_imports.specs.Nodes.{marks_of}
use Rattle.modinfo_imports.proofs.nodes.add_marks.Goals as goal

pub loop-node-init : goal.loop-node-init
loop-node-init c = sym (append-nil c.args.marks.now.items)

pub loop-node-preserved : goal.loop-node-preserved
loop-node-preserved c =
    below-more (marks_of c.args.text.now) c.args.nodes.now c.loop-node.node-index c.node-item.result
    c.args.marks.now.items c.loop-node.marks.items _ c.loop-node-test.true c.node-item.is
    c.loop-node.invariant c.in_ok-add_marks_below.ensures

pub returns : goal.returns
returns c =
    below-all (marks_of c.args.text.now) c.args.nodes.now c.args.nodes.now c.loop-node.node-index
    c.args.marks.now.items c.loop-node.marks.items refl c.loop-node-test.false c.loop-node.invariant
