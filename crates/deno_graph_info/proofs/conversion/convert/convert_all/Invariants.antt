-- The dependencies so far were converted.
use Rattle.std.proofs.Common.{take}
use Rattle.serde_json.specs.View.{items_view}
use Rattle.deno_graph_info.specs.Conversion.{AreConverted}
use Rattle.deno_graph_info.proofs.conversion.convert.convert_all.Given as goal

abbrev pub invariant-loop-dependency : goal.invariant-loop-dependency
invariant-loop-dependency l =
    AreConverted (items_view (take l.dependency-index l.dependencies.items)) (items_view l.converted.items)
