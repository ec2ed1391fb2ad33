-- The items so far are those that a script may have.
use Rattle.std.proofs.Common.{◌≡◌, ℕ, ◌<◌, Some, false, slice_get, take, All}
use Rattle.deno_graph_source.specs.Node.{kind_of}
use Rattle.deno_graph_source.specs.declared.tree.node.Node.{Node}
use Rattle.deno_graph_module_info.specs.Script.{is_module_item}
use Rattle.deno_graph_module_info.specs.internal.ScriptSteps.{MakesModule}
use Rattle.deno_graph_module_info.proofs.script.is_script.Given as goal

abbrev pub invariant-loop-item : goal.invariant-loop-item
invariant-loop-item l = record {
  items : All (λ item. is_module_item (kind_of item) ≡ false) (take l.item-index l.item-items);
  make_none : (k : ℕ) (item : Node) → k < l.item-index → slice_get l.item-items k ≡ Some item
      → ¬ MakesModule false item;
}
