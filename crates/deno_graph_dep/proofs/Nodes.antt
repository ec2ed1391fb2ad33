-- Recursion and induction on nodes, by their children.
use Rattle.std.proofs.Common.{◌≡◌, ℕ, List, [], ◌∷◌, Option, Some, None, map, suc, sym, ap, ◌∙◌, refl, subst}
use Rattle.std.specs.Prelude.{slice_get, option_map}
use Rattle.std.proofs.lemmas.Option.{slice_get-map}
use Rattle.deno_graph_source.specs.Node.{children_of}
use Rattle.deno_graph_source.specs.declared.tree.node.Node as layers
use Rattle.deno_graph_source.specs.declared.tree.node.Node.{Node, Node-F, fold-Node, roll-Node, out-Node}
use Rattle.deno_graph_source.specs.declared.tree.node.Node.{ind-Node}
use Rattle.deno_graph_source.specs.declared.tree.node.Node.TheFolds.{fold_out-Node}
use Rattle.deno_graph_source.specs.declared.tree.node.Node.TheViews.{roll-out-Node, out-roll-Node}
use Rattle.deno_graph_dep.specs.Recursion.{with_result, by_children}

-- the children of a node that is made of a layer
pub children_of-roll : (layer : Node-F Node) → children_of (roll-Node layer) ≡ layer.children
unfolding children_of
children_of-roll layer = ap (λ l. l.children) (out-roll-Node layer)

held : {P : Node → Type 0} (o : Option ((node : Node) × P node)) (child : Node)
    → option_map (λ e. e.0) o ≡ Some child → P child
held None child e = cc
held {P} (Some x) child e = let s : x.0 ≡ child = cc in subst P s x.1

-- induction: a property that passes from children to their node is one of every node
pub node_induction : (P : Node → Type 0)
    → ((node : Node) → ((index : ℕ) (child : Node) → slice_get (children_of node) index ≡ Some child
    → P child) → P node) → (node : Node) → P node
node_induction P step = ind-Node P (λ x y is. step (roll-Node x) (λ index child e.
    let same = children_of-roll x ∙ sym (ap (λ l. l.children) is) in
    held (slice_get y.children index) child
    (sym (slice_get-map (λ e. e.0) y.children index) ∙ (ap (λ ks. slice_get ks index) (sym same) ∙ e))))

-- two maps that undo each other at each member
map_map-same : {A B : Type 0} (f : A → B) (g : B → A) (xs : List A)
    → ((n : ℕ) (x : A) → slice_get xs n ≡ Some x → g (f x) ≡ x) → map g (map f xs) ≡ xs
map_map-same f g [] h = refl
map_map-same f g (x ∷ xs) h = let e = h 0 x refl in let r = map_map-same f g xs (λ n y k. h (suc n) y k) in cc

map_map : {A B C : Type 0} (f : A → B) (g : B → C) (xs : List A) → map g (map f xs) ≡ map (λ x. g (f x)) xs
map_map f g [] = refl
map_map f g (x ∷ xs) = ap (λ ys. g (f x) ∷ ys) (map_map f g xs)

module _ {A : Type 0} (step : Node → List A → A) where
  both : Node → Node × A
  both = fold-Node (Node × A) (with_result step)

  layer_same : (node : Node)
      → ((index : ℕ) (child : Node) → slice_get (children_of node) index ≡ Some child
      → (both child).0 ≡ child)
      → roll-Node (layers.map-Node (Node × A) Node (λ c. c.0)
      (layers.map-Node Node (Node × A) both (out-Node node))) ≡ node
  unfolding children_of
  layer_same node h =
      let same = map_map-same both (λ c. c.0) (out-Node node).children h in
      ap (λ ks. roll-Node (record (out-Node node) { children = ks })) same ∙ roll-out-Node node

  first_same : (node : Node) → (both node).0 ≡ node
  unfolding both
  first_same = node_induction (λ node. (both node).0 ≡ node) (λ node ih.
      ap (λ c. c.0) (fold_out-Node (Node × A) (with_result step) node) ∙ layer_same node ih)

  by_children-is_lem : (node : Node)
      → by_children step node ≡ step node (map (by_children step) (children_of node))
  unfolding by_children both children_of
  by_children-is_lem node =
      ap (λ c. c.1) (fold_out-Node (Node × A) (with_result step) node) ∙
      (ap (λ n. step n (map (λ c. c.1) (map both (out-Node node).children)))
      (layer_same node (λ index child e. first_same child)) ∙
      ap (step node) (map_map both (λ c. c.1) (out-Node node).children))

pub by_children-is : {A : Type 0} (step : Node → List A → A) (node : Node)
    → by_children step node ≡ step node (map (by_children step) (children_of node))
by_children-is step node = by_children-is_lem step node
