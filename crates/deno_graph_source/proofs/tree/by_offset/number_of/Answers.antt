use Rattle.std.proofs.Common.{◌≡◌, ◌∙◌, false, sym}
use Rattle.std.proofs.lemmas.List.{take_all}
use Rattle.std.proofs.lemmas.List.Elements.{All-more}
use Rattle.deno_graph_source.proofs.tree.by_offset.number_of.Goals as goal

pub loop-number-preserved : goal.loop-number-preserved
loop-number-preserved g c =
    let same = g.T.PartialEq.eq in
    let item = c.index-items-number.result in
    let other : same item c.args.wanted.now ≡ false = sym c.eq.ensures ∙ c.if-eq.false in
    All-more (λ other. same other c.args.wanted.now ≡ false) _ _ item c.loop-number-test.true
    c.loop-number.invariant (rw (← c.index-items-number.is) other)

pub returns : goal.returns
returns g c = rw (take_all _ _ c.loop-number-test.false) at c.loop-number.invariant
