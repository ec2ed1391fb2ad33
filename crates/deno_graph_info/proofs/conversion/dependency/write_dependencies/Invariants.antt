-- The dependencies so far were converted and written.
use Rattle.deno_graph_json.specs.Data.{elements_data}
use Rattle.deno_graph_json.specs.Text.{text_in}
use Rattle.deno_graph_info.proofs.ConvertedItems.{IsConvertedSoFar}
use Rattle.deno_graph_info.proofs.conversion.dependency.write_dependencies.Given as goal

abbrev pub invariant-loop-dependency : goal.invariant-loop-dependency
invariant-loop-dependency l = (goal.iterator-loop-dependency).can_next l.dependency-iterator
    × (goal.iterator-loop-dependency).is_finite l.dependency-iterator
    × IsConvertedSoFar (elements_data l.fn.dependencies) (elements_data l.dependency-iterator)
    (text_in l.initial.out) (text_in l.out)
