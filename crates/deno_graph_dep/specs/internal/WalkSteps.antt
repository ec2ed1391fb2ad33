-- The state of a walk, by its stack.
use Rattle.std.specs.Prelude.{◌≡◌, List, ◌++◌}
use Rattle.deno_graph_source.specs.declared.tree.node.Node.{Node}
use Rattle.deno_graph_source.specs.declared.tree.node.Program.{Program}
use Rattle.deno_graph_dep.specs.DependencyRules.{dependency_rules}
use Rattle.deno_graph_dep.specs.internal.ListingPaths.{listing_paths}
use Rattle.deno_graph_source.specs.NodePath.{NodePath}
use Rattle.deno_graph_dep.specs.internal.Stack.{IsStackOf, to_come}
use Rattle.deno_graph_dep.specs.declared.stack.Stack.{Stack}
use Rattle.deno_graph_dep.specs.Walk.{WalkState}

-- the state of a walk over this program with this stack
abbrev pub state_of : Program → Stack → WalkState
state_of program stack = record {
  program = program;
  to_come = to_come dependency_rules program.body stack;
  entered = stack.entered;
}

-- the stack belongs to a walk of the body, and the paths still to come are the end of the listing
pub record IsWalkOf (body : List Node) (stack : Stack) : Type 0 where
  pub is_stack : IsStackOf body stack
  pub given : List NodePath
  pub rest : listing_paths dependency_rules body ≡ given ++ to_come dependency_rules body stack
