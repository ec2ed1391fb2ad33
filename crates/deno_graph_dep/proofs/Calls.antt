-- The arguments of a call among its children, and which calls are no dependencies.
use Rattle.std.proofs.Common.{◌≡◌, ℕ, zero, suc, Bool, true, false, ◌&&◌, ◌+◌, ◌<◌, List, [], ◌∷◌, Option}
use Rattle.std.proofs.Common.{Some, None, option_map, option_and_then, slice_get, length, arith, ap, sym, ◌∙◌}
use Rattle.std.proofs.Common.{refl, subst, All, inl, inr}
use Rattle.std.specs.Prelude.{is_some}
use Rattle.std.proofs.lemmas.Option.{same_Some, slice_get_within, get_or_from_slice_get}
use Rattle.deno_graph_source.specs.Node.{kind_of, children_of, nodes_in, callee_count, HasCountOfKind}
use Rattle.deno_graph_source.specs.Node.{IsShaped}
use Rattle.deno_graph_source.specs.declared.tree.node.Arg.{Arg}
use Rattle.deno_graph_source.specs.declared.tree.node.Callee.{Callee}
use Rattle.deno_graph_source.specs.declared.tree.node.Kind.{Kind}
use Rattle.deno_graph_source.specs.declared.tree.node.Kind.TheVariants.{Call}
use Rattle.deno_graph_source.specs.declared.tree.node.Node.{Node}
use Rattle.deno_graph_source.proofs.ValidSource.{All-child_nodes, node-holds}
use Rattle.deno_graph_dep.specs.internal.CallSteps.{IsNoModuleCall}
use Rattle.deno_graph_dep.specs.DependencyKind.{call_kind}
use Rattle.deno_graph_dep.specs.DependencyRules.{is_dependency_kind, is_dependency}
use Rattle.deno_graph_dep.specs.DescriptorOf.{argument_at, argument_node}

-- a list has a node at each index below its length
pub node_within : (nodes : List Node) (k : ℕ) → k < length nodes
    → (node : Node) × (slice_get nodes k ≡ Some node)
node_within [] k within = absurd (omega (arith, within))
node_within (node ∷ nodes) zero within = (node, refl)
node_within (node ∷ nodes) (suc k) within = node_within nodes k (omega (arith, within))

-- a call with an argument has a node for it
pub first_argument_within : (node : Node) (callee : Callee) (args : List Arg)
    → kind_of node ≡ Call callee args
    → All IsShaped (nodes_in node) → 0 < length args → callee_count callee < length (children_of node)
unfolding HasCountOfKind
first_argument_within node callee args is shaped some =
    let P : Kind → Type 0 = λ kind. HasCountOfKind kind (length (children_of node)) in
    let count = subst P is (node-holds IsShaped node shaped).count in
    omega (arith, count, some)

-- the node of an argument has, with all below it, the children that it needs
pub argument_shaped : (node : Node) (callee : Callee) (index : ℕ) (argument : Node)
    → All IsShaped (nodes_in node)
    → argument_node callee (children_of node) index ≡ Some argument → All IsShaped (nodes_in argument)
argument_shaped node callee index argument shaped at =
    let k = callee_count callee + index in
    All-child_nodes IsShaped node argument (
      k,
      slice_get_within (children_of node) k argument at,
      get_or_from_slice_get (children_of node) k argument argument at,
    ) shaped

-- an argument and its node that are there are those with its index
pub argument_parts : (callee : Callee) (args : List Arg) (children : List Node) (index : ℕ) (arg : Arg)
    (argument : Node)
    → argument_at callee args children index ≡ Some (arg, argument)
    → (slice_get args index ≡ Some arg) × (argument_node callee children index ≡ Some argument)
argument_parts callee args children index arg argument at =
    parts (slice_get args index) (argument_node callee children index) at
  where
    parts : (a : Option Arg) (n : Option Node)
        → option_and_then {U = Arg × Node} (λ x. option_map (λ node. (x, node)) n) a ≡ Some (arg, argument)
        → (a ≡ Some arg) × (n ≡ Some argument)
    parts None n is = cc
    parts (Some x) None is = cc
    parts (Some x) (Some node) is =
        let a : Arg × Node = (x, node) in
        let b : Arg × Node = (arg, argument) in
        let same : a ≡ b = same_Some a b is in
        (ap (λ (p : Arg × Node). Some p.0) same, ap (λ (p : Arg × Node). Some p.1) same)

no_argument : (callee : Callee) (args : List Arg) (children : List Node)
    → (0 < length args → callee_count callee < length children) → argument_at callee args children 0 ≡ None
    → is_some (slice_get args 0) ≡ false
no_argument callee [] children within none = refl
no_argument callee (arg ∷ args) children within none =
    let below = within (omega arith) in
    let node = node_within children (callee_count callee + 0) (omega (arith, below)) in
    let here = sym (ap (option_map (λ (n : Node). (arg, n))) node.1) ∙ none in
    cc

and_false : (b c : Bool) → c ≡ false → (b && c) ≡ false
and_false true c is = is
and_false false c is = refl

-- a call that is none of `import` or `require`, or that has no first argument, is no dependency
pub no_module_call : (node : Node) (callee : Callee) (args : List Arg) → kind_of node ≡ Call callee args
    → All IsShaped (nodes_in node) → IsNoModuleCall callee args (children_of node)
    → is_dependency node ≡ false
unfolding is_dependency
no_module_call node callee args is shaped none =
    let P : Kind → Type 0 = λ kind. is_dependency_kind kind (children_of node) ≡ false in
    subst P (sym is) (by_case none)
  where
    by_case : IsNoModuleCall callee args (children_of node)
        → (is_some (call_kind callee (children_of node)) && is_some (slice_get args 0)) ≡ false
    by_case (inl none) =
        ap (λ kind. is_some kind && is_some (slice_get args 0)) none
    by_case (inr none) =
        and_false (is_some (call_kind callee (children_of node))) (is_some (slice_get args 0))
        (no_argument callee args (children_of node) (first_argument_within node callee args is shaped) none)
