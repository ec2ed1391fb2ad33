-- The kinds of nodes with their paths.
use Rattle.std.proofs.Common.{◌≡◌, ℕ, suc, ◌+◌, ◌<◌, ◌≤◌, List, [], ◌∷◌, ◌++◌, map, take, length, get_or, All}
use Rattle.std.proofs.Common.{Option, Some, None, refl, sym, ap, ◌∙◌, subst, arith}
use Rattle.std.specs.List.{flat_map}
use Rattle.std.specs.Prelude.{option_map, slice_get}
use Rattle.std.proofs.lemmas.List.{append-nil, append_assoc, length-map, length-take-le, map-append, take_all}
use Rattle.std.proofs.lemmas.List.{take_more}
use Rattle.std.proofs.lemmas.List.Elements.{All-append, All-head, All-nil, All-tail, Contains-append_left}
use Rattle.std.proofs.lemmas.List.Elements.{Contains-append_right}
use Rattle.std.proofs.lemmas.Option.{slice_get-map}
use Rattle.deno_graph_source.proofs.Lists.{All-within}
use Rattle.deno_graph_source.proofs.Nodes.{All-nodes_in}
use Rattle.deno_graph_source.specs.Node.{children_of, kind_of, nodes_in, nodes_of}
use Rattle.deno_graph_source.specs.NodePath.{NodePath}
use Rattle.deno_graph_source.specs.declared.tree.node.Kind.{Kind}
use Rattle.deno_graph_source.specs.declared.tree.node.Program.{Program}
use Rattle.deno_graph_source.specs.declared.tree.node.Node.{Node, Node-F, ind-Node, roll-Node}
use Rattle.deno_graph_source.specs.declared.tree.node.Node.TheFolds.{fold_out-Node}
use Rattle.deno_graph_source.specs.declared.tree.node.Node.TheViews.{out-roll-Node}
use Rattle.modinfo_document.specs.NodeKinds.{KindAt, kinds_in, kinds_of_body, kinds_of_items, kinds_step}

-- The kinds of a node: its own, before those of its children.
pub kinds_in-is : (node : Node) (path : NodePath)
    → kinds_in node path ≡ (path, kind_of node) ∷ kinds_of_items 0 path (map kinds_in (children_of node))
unfolding kinds_in kind_of children_of
kinds_in-is node path =
    let at_path : (NodePath → List KindAt) → List KindAt = λ kinds. kinds path in
    ap at_path (fold_out-Node (NodePath → List KindAt) kinds_step node)

-- The kinds of items, with one at the end.
items_push : (items : List (NodePath → List KindAt)) (item : NodePath → List KindAt) (index : ℕ)
    (path : NodePath) → kinds_of_items index path (items ++ item ∷ [])
    ≡ kinds_of_items index path items ++ item (path ++ (index + length items) ∷ [])
items_push [] item index path =
    let here : index ≡ index + 0 = omega arith in
    append-nil _ ∙ ap (λ k. item (path ++ k ∷ [])) here
items_push (first ∷ items) item index path =
    let own = first (path ++ index ∷ []) in
    let rest = kinds_of_items (index + 1) path items in
    let here : index + 1 + length items ≡ index + suc (length items) = omega arith in
    ap (λ more. own ++ more) (items_push items item (index + 1) path)
    ∙ sym (append_assoc own rest _) ∙ ap (λ k. own ++ rest ++ item (path ++ k ∷ [])) here

-- The kinds of the nodes so far, with those of the next.
pub kinds_more : (nodes : List Node) (number : ℕ) (node : Node) (path : NodePath) → number < length nodes
    → node ≡ get_or nodes number node
    → kinds_of_items 0 path (map kinds_in (take (number + 1) nodes))
    ≡ kinds_of_items 0 path (map kinds_in (take number nodes)) ++ kinds_in node (path ++ number ∷ [])
kinds_more nodes number node path below is =
    let before = take number nodes in
    let size : 0 + length (map kinds_in before) ≡ number =
    omega (arith, length-map before kinds_in, length-take-le number nodes (omega (arith, below))) in
    ap (λ ns. kinds_of_items 0 path (map kinds_in ns))
    (take_more nodes number node below ∙ ap (λ n. before ++ n ∷ []) (sym is))
    ∙ ap (kinds_of_items 0 path) (map-append kinds_in before (node ∷ []))
    ∙ items_push (map kinds_in before) (kinds_in node) 0 path
    ∙ ap (λ k. kinds_of_items 0 path (map kinds_in before) ++ kinds_in node (path ++ k ∷ [])) size

-- The kinds of all nodes.
pub kinds_all : (nodes items : List Node) (number : ℕ) (path : NodePath) → items ≡ nodes
    → length items ≤ number → kinds_of_items 0 path (map kinds_in (take number items))
    ≡ kinds_of_items 0 path (map kinds_in nodes)
kinds_all nodes items number path same past =
    ap (λ ns. kinds_of_items 0 path (map kinds_in ns)) (take_all number items past ∙ same)

-- The children of a node that is made of a layer.
children_of-roll : (layer : Node-F Node) → children_of (roll-Node layer) ≡ layer.children
unfolding children_of
children_of-roll layer = ap (λ l. l.children) (out-roll-Node layer)

held : {P : Node → Type 0} (o : Option ((node : Node) × P node)) (child : Node)
    → option_map (λ e. e.0) o ≡ Some child → P child
held None child e = cc
held {P} (Some x) child e = let s : x.0 ≡ child = cc in subst P s x.1

-- Induction: a property that passes from children to their node is one of every node.
pub node_induction : (P : Node → Type 0)
    → ((node : Node) → ((index : ℕ) (child : Node) → slice_get (children_of node) index ≡ Some child
    → P child) → P node) → (node : Node) → P node
node_induction P step = ind-Node P (λ x y is. step (roll-Node x) (λ index child e.
    let same = children_of-roll x ∙ sym (ap (λ l. l.children) is) in
    held (slice_get y.children index) child
    (sym (slice_get-map (λ e. e.0) y.children index) ∙ (ap (λ ks. slice_get ks index) (sym same) ∙ e))))

-- A property of all kinds is one of the kinds of all nodes.
module _ (P : Kind → Type 0) where
  abbrev IsOne : KindAt → Type 0
  IsOne at = P at.1

  abbrev HasOne : Node → Type 0
  HasOne node = P (kind_of node)

  abbrev Passes : Node → Type 0
  Passes node = (path : NodePath) → All IsOne (kinds_in node path) → All HasOne (nodes_in node)

  items_pass : (nodes : List Node) (index : ℕ) (path : NodePath)
      → ((k : ℕ) (node : Node) → slice_get nodes k ≡ Some node → Passes node)
      → All IsOne (kinds_of_items index path (map kinds_in nodes)) → All HasOne (flat_map nodes_in nodes)
  items_pass [] index path each all = All-nil HasOne
  items_pass (node ∷ nodes) index path each all =
      let own = kinds_in node (path ++ index ∷ []) in
      let rest = kinds_of_items (index + 1) path (map kinds_in nodes) in
      All-append HasOne (nodes_in node) (flat_map nodes_in nodes)
      (each 0 node refl (path ++ index ∷ [])
      (All-within IsOne (own ++ rest) own (Contains-append_left own rest) all))
      (items_pass nodes (index + 1) path (λ k child is. each (suc k) child is)
      (All-within IsOne (own ++ rest) rest (Contains-append_right own rest) all))

  node_passes : (node : Node) → Passes node
  node_passes = node_induction Passes (λ node each path all.
      let whole = subst (All IsOne) (kinds_in-is node path) all in
      let below = kinds_of_items 0 path (map kinds_in (children_of node)) in
      All-nodes_in HasOne node (All-head IsOne (path, kind_of node) below whole)
      (items_pass (children_of node) 0 path each (All-tail IsOne (path, kind_of node) below whole)))

  pub body_passes : (program : Program) → All IsOne (kinds_of_body program.body)
      → All HasOne (nodes_of program)
  unfolding nodes_of
  body_passes program all = items_pass program.body 0 [] (λ k node is. node_passes node) all
