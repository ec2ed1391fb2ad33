-- The stack belongs to the same body, the same dependencies are still to come, and iterations are left.
use Rattle.std.proofs.Common.{List}
use Rattle.deno_graph_source.specs.declared.tree.node.Node.{Node}
use Rattle.deno_graph_dep.specs.internal.Stack.{IsStackOf}
use Rattle.deno_graph_dep.proofs.Progress.{Progress}
use Rattle.deno_graph_dep.proofs.IterationsLeft.{iterations_left}
use Rattle.deno_graph_dep.proofs.stack.Stack.next_dependency.Given as goal

abbrev pub invariant-nodes : goal.invariant-nodes
invariant-nodes l = (body : List Node) → IsStackOf body l.initial.self → Progress body l.initial.self l.self

abbrev pub decreases-nodes : goal.decreases-nodes
decreases-nodes l = iterations_left l.self
