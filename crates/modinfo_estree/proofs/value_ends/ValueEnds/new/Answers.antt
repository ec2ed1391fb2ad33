use Rattle.std.proofs.Common.{ap, subst}
use Rattle.std.proofs.lemmas.List.{take_all}
use Rattle.std.specs.BTreeMap.{is_at}
use Rattle.std.specs.List.{list_any}
use Rattle.std.specs.Ordering.{nat_cmp}
use Rattle.modinfo_estree.specs.ValueEnds.{ranges_in}
use Rattle.modinfo_estree.specs.internal.ValueEnds.{AreAdded}
use Rattle.modinfo_estree.proofs.FoundEnds.{all_added}
use Rattle.modinfo_estree.proofs.value_ends.ValueEnds.new.Goals as goal

pub returns : goal.returns
returns c =
    let text = c.args.text.now in
    let body = c.args.body.now in
    all_added text body c.new-ends.result c.loop-node.ends
    (λ at. ap (list_any (is_at (nat_cmp at))) c.new-ends.ensures.empty)
    (subst (λ nodes. AreAdded text (ranges_in nodes) c.new-ends.result c.loop-node.ends)
    (take_all c.loop-node.node-index body c.loop-node-test.false) c.loop-node.invariant)
