use Rattle.std.proofs.Common.{None, sym, ap, ◌∙◌}
use Rattle.serde_json.specs.Find.{get_item}
use Rattle.deno_graph_json.proofs.ArrayElements.{elements_next, nth_here, nth_next}
use Rattle.deno_graph_json.proofs.flat.Elements.get.Goals as goal

pub loop-element-preserved : goal.loop-element-preserved
loop-element-preserved c =
    let left = c.loop-element in (
      tt,
      tt,
      nth_next left.left left.element-iterator c.next.new.self c.in-Some.element c.if-left-eq0.false
          c.in-Some.ensures.steps
          ∙ left.invariant.2,
    )

pub returns-then-left-eq0 : goal.returns-then-left-eq0
returns-then-left-eq0 c =
    let left = c.loop-element in
    record {
      json = nth_here left.left left.element-iterator c.next.new.self c.in-Some.element c.if-left-eq0.true
          c.in-Some.ensures.steps
          ∙ left.invariant.2;
    }

pub returns : goal.returns
returns c =
    let left = c.loop-element in
    let none = elements_next left.element-iterator c.next.new.self None c.in-None.ensures.steps in
    record { json = ap (get_item left.left) (sym none) ∙ left.invariant.2 }
