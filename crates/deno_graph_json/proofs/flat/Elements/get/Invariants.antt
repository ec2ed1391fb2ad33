use Rattle.std.proofs.Common.{◌≡◌}
use Rattle.serde_json.specs.Find.{get_item}
use Rattle.deno_graph_json.specs.Data.{elements_data}
use Rattle.deno_graph_json.proofs.flat.Elements.get.Given as goal

abbrev pub invariant-loop-element : goal.invariant-loop-element
invariant-loop-element l = (goal.iterator-loop-element).can_next l.element-iterator
    × (goal.iterator-loop-element).is_finite l.element-iterator
    × (get_item l.left (elements_data l.element-iterator) ≡ get_item l.fn.number (elements_data l.fn.self))
