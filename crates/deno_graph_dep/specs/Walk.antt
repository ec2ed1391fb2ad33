-- A walk over a program: the paths still to come, and the count of entered nodes.
use Rattle.std.specs.Prelude.{◌≡◌, ℕ, List, [], ◌∷◌, Option, Some, None}
use Rattle.std.specs.Borrow.{Bor}
use Rattle.deno_graph_source.specs.declared.tree.node.Node.{Node}
use Rattle.deno_graph_source.specs.declared.tree.node.Program.{Program}
use Rattle.deno_graph_dep.specs.DependencyRules.{dependency_rules}
use Rattle.deno_graph_dep.specs.Entered.{EnteredBy, IsCountOf}
use Rattle.deno_graph_dep.specs.Listing.{IsReachable}
use Rattle.deno_graph_source.specs.NodePath.{NodePath, node_at}

pub record WalkState : Type 0 where
  -- the program that is walked
  pub program : Program
  -- the paths of the dependencies still to come, in tree order
  pub to_come : List NodePath
  -- the count of entered nodes, or the largest u64 if that is less
  pub entered : ℕ

-- the step returns `None`: no path is still to come, and every reachable node is entered
pub record ReturnsNone (old new : WalkState) : Type 0 where
  pub before : old.to_come ≡ []
  pub after : new.to_come ≡ []
  pub entered : IsCountOf (IsReachable dependency_rules old.program.body) new.entered

-- The step returns a node: that at the first of the paths still to come. Exactly these nodes are
-- entered: those before the node or around it, the node itself, and the nodes inside it if it comes
-- after them.
pub record ReturnsNode (old new : WalkState) (node : Node) : Type 0 where
  pub path : NodePath
  pub at_path : node_at old.program.body path ≡ Some node
  pub first : old.to_come ≡ path ∷ new.to_come
  pub entered : IsCountOf (EnteredBy dependency_rules old.program.body path) new.entered

-- the result of one step
abbrev pub IsWalkStep : WalkState → WalkState → Option (Bor Node) → Type 0
IsWalkStep old new None = ReturnsNone old new
IsWalkStep old new (Some node) = ReturnsNode old new node.now

-- steps one after another over one program, and the result of each
abbrev pub AreWalkSteps : WalkState → List (Option (Bor Node)) → WalkState → Type 0
AreWalkSteps old [] new = new ≡ old
AreWalkSteps old (found ∷ more) new =
    (next : WalkState) × (next.program ≡ old.program) × IsWalkStep old next found × AreWalkSteps next more new
