-- The parts so far are those of the right children passed, from the outermost in.
use Rattle.std.proofs.Common.{◌≡◌, List, map, All}
use Rattle.deno_graph_source.specs.declared.tree.node.Node.{size-Node}
use Rattle.deno_graph_dep.specs.Argument.{SpineStep, part_seen, part_of}
use Rattle.deno_graph_source.specs.Node.{nodes_in, IsShaped}
use Rattle.deno_graph_dep.proofs.Spine.{Descends, rights_of}
use Rattle.deno_graph_dep.proofs.argument.sum_argument.Given as goal

abbrev pub invariant-loop-operand : goal.invariant-loop-operand
invariant-loop-operand l =
    record {
      above : List SpineStep;
      descends : Descends l.node above l.operand;
      shaped : All IsShaped (nodes_in l.operand);
      parts : map part_seen l.parts.items ≡ map part_of (rights_of above);
    }

abbrev pub decreases-loop-operand : goal.decreases-loop-operand
decreases-loop-operand l = size-Node l.operand
