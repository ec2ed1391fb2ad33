-- When a call is no dependency.
use Rattle.std.specs.Prelude.{◌≡◌, ◌⊎◌, List, None}
use Rattle.deno_graph_source.specs.declared.tree.node.Arg.{Arg}
use Rattle.deno_graph_source.specs.declared.tree.node.Callee.{Callee}
use Rattle.deno_graph_source.specs.declared.tree.node.Node.{Node}
use Rattle.deno_graph_dep.specs.DependencyKind.{call_kind}
use Rattle.deno_graph_dep.specs.DescriptorOf.{argument_at}

-- the call is none of `import` or `require`, or has no first argument
abbrev pub IsNoModuleCall : Callee → List Arg → List Node → Type 0
IsNoModuleCall callee args children =
    (call_kind callee children ≡ None) ⊎ (argument_at callee args children 0 ≡ None)
