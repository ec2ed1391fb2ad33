-- A walk from its start, and from one step to the next.
use Rattle.std.proofs.Common.{◌≡◌, ℕ, ◌+◌, List, [], ◌∷◌, ◌++◌, map, Option, Some, None, Result, Ok, Err}
use Rattle.std.proofs.Common.{IfOk, OnErr, sym, ap, ◌∙◌, refl, subst, arith, append_assoc}
use Rattle.std.specs.Borrow.{Bor}
use Rattle.deno_graph_source.specs.declared.tree.node.Node.{Node}
use Rattle.deno_graph_source.specs.declared.tree.node.Program.{Program}
use Rattle.deno_graph_dep.specs.DependencyRules.{dependency_rules}
use Rattle.deno_graph_dep.specs.internal.Stack.{entry_rules, index_of, paths_to_come, to_come, AreNested}
use Rattle.deno_graph_dep.specs.internal.Stack.{IsStackOf}
use Rattle.deno_graph_dep.specs.internal.ListingPaths.{listing_paths, paths_at}
use Rattle.deno_graph_dep.specs.Listing.{Rules, IsListing}
use Rattle.deno_graph_source.specs.NodePath.{NodePath}
use Rattle.deno_graph_dep.specs.Walk.{IsWalkStep}
use Rattle.deno_graph_dep.specs.internal.WalkSteps.{IsWalkOf, state_of}
use Rattle.deno_graph_dep.specs.declared.stack.Frame.{Frame}
use Rattle.deno_graph_dep.specs.declared.stack.Stack.{Stack}
use Rattle.deno_graph_dep.proofs.Ascending.{Member-from_Contains}
use Rattle.deno_graph_dep.proofs.Listings.{IsListing-listing_paths}
use Rattle.deno_graph_dep.proofs.Stacks.{under-same}

-- at the start all paths are still to come
starts : (rules : Rules) (body : List Node) → listing_paths rules body ≡ paths_to_come rules body [] body
unfolding listing_paths
starts rules body = under-same (λ n. n) (λ n. n + index_of body body) (λ n. first n)
    (map (paths_at rules) body)
  where
    first : (n : ℕ) → n ≡ n + index_of body body
    first n = omega arith

pub to_come-new : (rules : Rules) (body : List Node) (stack : Stack) → stack.frames.items ≡ []
    → stack.nodes.now ≡ body
    → listing_paths rules body ≡ to_come rules body stack
to_come-new rules body stack frames nodes = rw (frames, nodes) (starts rules body)

pub IsWalkOf-new : (body : List Node) (stack : Stack) → stack.frames.items ≡ [] → stack.nodes.now ≡ body
    → stack.entered ≡ 0
    → IsWalkOf body stack
IsWalkOf-new body stack frames nodes entered = record {
  is_stack = record {
    nested =
        let P : List Frame → Type 0 = λ fs. AreNested body fs stack.nodes.now in
        let Q : List Node → Type 0 = λ ns. AreNested body [] ns in
        let at_start : AreNested body [] body = ([], refl) in
        subst P (sym frames) (subst Q (sym nodes) at_start);
    passed = [];
    follow = to_come-new (entry_rules dependency_rules) body stack frames nodes;
    all_passed = λ path m. absurd (Member-from_Contains [] path m);
    counted = entered;
  };
  given = [];
  rest = to_come-new dependency_rules body stack frames nodes;
}

pub listing-new : (body : List Node) (stack : Stack) → stack.frames.items ≡ [] → stack.nodes.now ≡ body
    → IsListing dependency_rules body (to_come dependency_rules body stack)
listing-new body stack frames nodes =
    let P : List NodePath → Type 0 = λ ps. IsListing dependency_rules body ps in
    subst P (to_come-new dependency_rules body stack frames nodes)
    (IsListing-listing_paths dependency_rules body)

-- the paths returned so far and those still to come after a step are the listing
given_by : {E : Type 0} (program : Program) (old new : Stack) (answer : Result (Option (Bor Node)) E)
    → IfOk answer (IsWalkStep (state_of program old) (state_of program new))
    → OnErr answer (to_come dependency_rules program.body new ≡ to_come dependency_rules program.body old)
    → (given : List NodePath)
    → listing_paths dependency_rules program.body ≡ given ++ to_come dependency_rules program.body old
    → (again : List NodePath)
    × (listing_paths dependency_rules program.body ≡ again ++ to_come dependency_rules program.body new)
given_by program old new (Ok None) step failed given rest =
    (given, rest ∙ ap (λ ps. given ++ ps) (step.before ∙ sym step.after))
given_by program old new (Ok (Some node)) step failed given rest = (
  given ++ step.path ∷ [],
  rest ∙ ap (λ ps. given ++ ps) step.first
      ∙ sym (append_assoc given (step.path ∷ []) (to_come dependency_rules program.body new)),
)
given_by program old new (Err error) step failed given rest =
    (given, rest ∙ ap (λ ps. given ++ ps) (sym failed))

pub IsWalkOf-step : {E : Type 0} (program : Program) (old new : Stack) (answer : Result (Option (Bor Node)) E)
    → IfOk answer (IsWalkStep (state_of program old) (state_of program new))
    → OnErr answer (to_come dependency_rules program.body new ≡ to_come dependency_rules program.body old)
    → IsStackOf program.body new → IsWalkOf program.body old → IsWalkOf program.body new
IsWalkOf-step program old new answer step failed stack walk =
    let then = given_by program old new answer step failed walk.given walk.rest in
    record { is_stack = stack; given = then.0; rest = then.1 }

pub listing-of_walk : (body : List Node) (stack : Stack) → IsWalkOf body stack
    → (given : List NodePath) × IsListing dependency_rules body (given ++ to_come dependency_rules body stack)
listing-of_walk body stack walk =
    let P : List NodePath → Type 0 = λ ps. IsListing dependency_rules body ps in
    (walk.given, subst P walk.rest (IsListing-listing_paths dependency_rules body))
