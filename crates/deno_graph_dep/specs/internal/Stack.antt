-- The stack of a walk: the entered nodes that are not left yet, and the paths still to come.
use Rattle.std.specs.Prelude.{◌≡◌, ◌⊎◌, ℕ, suc, ◌+◌, ◌-◌, ◌^◌, min, Contains, List, [], ◌∷◌, ◌++◌, length}
use Rattle.std.specs.Prelude.{map, Bool, not, ◌&&◌, cond, Option, Some, None, true, false}
use Rattle.std.specs.Borrow.{Bor}
use Rattle.deno_graph_source.specs.declared.tree.node.Node.{Node}
use Rattle.deno_graph_dep.specs.DependencyRules.{children_to_visit, dependency_rules}
use Rattle.deno_graph_dep.specs.internal.ListingPaths.{under, paths_at, listing_paths}
use Rattle.deno_graph_dep.specs.Listing.{Rules}
use Rattle.deno_graph_source.specs.NodePath.{NodePath, IsStrictPrefix, PartsBelow}
use Rattle.deno_graph_dep.specs.declared.stack.Frame.{Frame}
use Rattle.deno_graph_dep.specs.declared.stack.Stack.{Stack}

-- the rules of a listing of every node that the walk enters, each before the nodes inside it
abbrev pub entry_rules : Rules → Rules
entry_rules rules = record {
  is_closed = rules.is_closed;
  is_member = λ node. true;
  is_after_inside = λ node. false;
}

abbrev pub frame_of : Bor Node → Bor (List Node) → Frame
frame_of node siblings = record { node = node; siblings = siblings }

-- leaving returns the innermost node, and the siblings after it come next
abbrev pub Leaves : Stack → Stack → Option (Bor Node) → Type 0
Leaves old new None =
    (old.frames.items ≡ []) × (new.frames.items ≡ []) × (new.nodes.now ≡ old.nodes.now)
Leaves old new (Some node) =
    (siblings : Bor (List Node))
    × (old.frames.items ≡ new.frames.items ++ frame_of node siblings ∷ [])
    × (new.nodes.now ≡ siblings.now)

-- whether a node belongs to the listing, and comes before or after the nodes inside it
abbrev pub comes_before : Rules → Node → Bool
comes_before rules node = not (rules.is_after_inside node) && rules.is_member node

abbrev pub comes_after : Rules → Node → Bool
comes_after rules node = rules.is_after_inside node && rules.is_member node

-- the path if the test holds, as a list of one or none
abbrev pub once : Bool → NodePath → List NodePath
once b path = cond b (path ∷ []) []

-- the index in a level at which its last nodes begin
abbrev pub index_of : List Node → List Node → ℕ
index_of level nodes = length level - length nodes

-- the index of the node that was entered in a level
abbrev pub frame_index : List Node → Frame → ℕ
frame_index level frame = index_of level (frame.node.now ∷ frame.siblings.now)

-- the path of the node to enter next, from this level in
abbrev pub next_path : List Node → List Frame → List Node → NodePath
next_path level [] nodes = index_of level nodes ∷ []
next_path level (frame ∷ frames) nodes =
    frame_index level frame ∷ next_path (children_to_visit frame.node.now) frames nodes

-- The paths still to come below this level: those of the nodes to enter next, and then for each
-- frame, the innermost first, the path of its node if that comes after its inside, and the paths of
-- the siblings.
abbrev pub paths_to_come : Rules → List Node → List Frame → List Node → List NodePath
paths_to_come rules level [] nodes =
    under (λ n. n + index_of level nodes) (map (paths_at rules) nodes)
paths_to_come rules level (frame ∷ frames) nodes =
    let node = frame.node.now in
    let index = frame_index level frame in
    let inside = paths_to_come rules (children_to_visit node) frames nodes in
    map (λ path. index ∷ path) (inside ++ once (comes_after rules node) [])
    ++ under (λ n. n + suc index) (map (paths_at rules) frame.siblings.now)

-- the nodes are the last ones of a level
abbrev pub AreLastOf : List Node → List Node → Type 0
AreLastOf level nodes = (before : List Node) × (level ≡ before ++ nodes)

-- each entered node is in the level inside the one before it, with its siblings after it
abbrev pub AreNested : List Node → List Frame → List Node → Type 0
AreNested level [] nodes = AreLastOf level nodes
AreNested level (frame ∷ frames) nodes =
    AreLastOf level (frame.node.now ∷ frame.siblings.now)
    × AreNested (children_to_visit frame.node.now) frames nodes

-- the paths that are still to come
abbrev pub to_come : Rules → List Node → Stack → List NodePath
to_come rules body stack = paths_to_come rules body stack.frames.items stack.nodes.now

-- the paths of all nodes that the walk enters, and of those still to be entered
abbrev pub entry_paths : List Node → List NodePath
entry_paths body = listing_paths (entry_rules dependency_rules) body

abbrev pub entries_to_come : List Node → Stack → List NodePath
entries_to_come body stack = to_come (entry_rules dependency_rules) body stack

-- the path of the node to enter next
abbrev pub next_of : List Node → Stack → NodePath
next_of body stack = next_path body stack.frames.items stack.nodes.now

-- a path is passed: it parts from the next path at a smaller index, or is a strict prefix of it
abbrev pub IsPassed : NodePath → NodePath → Type 0
IsPassed next path = PartsBelow path next ⊎ IsStrictPrefix path next

-- The stack belongs to a walk of this body: its frames are nested in the body, and `passed` are the
-- paths of the nodes that were entered, which it counts.
pub record IsStackOf (body : List Node) (stack : Stack) : Type 0 where
  pub nested : AreNested body stack.frames.items stack.nodes.now
  pub passed : List NodePath
  pub follow : entry_paths body ≡ passed ++ entries_to_come body stack
  pub all_passed : (path : NodePath) → Contains passed path → IsPassed (next_of body stack) path
  pub counted : stack.entered ≡ min (length passed) (2 ^ 64 - 1)
