-- No child so far makes a module.
use Rattle.std.proofs.Common.{◌≡◌, ℕ, ◌<◌, Some, slice_get}
use Rattle.deno_graph_source.specs.declared.tree.node.Node.{Node}
use Rattle.deno_graph_module_info.specs.internal.ScriptSteps.{MakesModule}
use Rattle.deno_graph_module_info.proofs.script.+makes_module.Given as goal

abbrev pub invariant-loop-child : goal.invariant-loop-child
invariant-loop-child l = (k : ℕ) (child : Node) → k < l.child-index → slice_get l.child-items k ≡ Some child
    → ¬ MakesModule l.inside_children child
