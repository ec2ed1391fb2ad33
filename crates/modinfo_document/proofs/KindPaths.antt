-- The kinds of a body are those of the nodes to which paths lead.
use Rattle.std.proofs.Common.{◌≡◌, ◌↔◌, ℕ, zero, suc, ◌+◌, inl, inr, List, [], ◌∷◌, ◌++◌, map, Option, Some}
use Rattle.std.proofs.Common.{None, IsSomeAnd, refl, sym, ap, ◌∙◌, subst, arith}
use Rattle.std.specs.List.{Contains, slice_get}
use Rattle.std.proofs.lemmas.List.{append-nil, append_assoc}
use Rattle.std.proofs.lemmas.List.Elements.{Contains-append_cases, Contains-append_left}
use Rattle.std.proofs.lemmas.List.Elements.{Contains-append_right}
use Rattle.deno_graph_source.proofs.Lists.{Contains-cons}
use Rattle.deno_graph_source.specs.Node.{children_of, kind_of}
use Rattle.deno_graph_source.specs.NodePath.{NodePath, node_at, node_below}
use Rattle.deno_graph_source.specs.declared.tree.node.Node.{Node}
use Rattle.modinfo_document.specs.NodeKinds.{KindAt, LeadsToKind, kinds_in, kinds_of_body, kinds_of_items}
use Rattle.modinfo_document.proofs.NodeKinds.{kinds_in-is, node_induction}

-- The node that was found has the kind of the pair.
abbrev Has : KindAt → Option Node → Type 0
Has at found = IsSomeAnd found (λ node. kind_of node ≡ at.1)

-- The pair has a path that goes on from the path, to a node with its kind.
abbrev GoesOn : KindAt → NodePath → Node → Type 0
GoesOn at path node = (inner : NodePath) × (at.0 ≡ path ++ inner) × Has at (node_below (Some node) inner)

-- The same of a path that goes on to one of the nodes, of which the first has the index.
abbrev GoesTo : KindAt → ℕ → NodePath → List Node → Type 0
GoesTo at index path nodes = (k : ℕ) × (inner : NodePath) × (at.0 ≡ path ++ (index + k) ∷ inner)
    × Has at (node_below (slice_get nodes k) inner)

abbrev Leads : KindAt → Node → Type 0
Leads at node = (path : NodePath) → Contains (kinds_in node path) at → GoesOn at path node

module _ (at : KindAt) where
  leads_first : (index : ℕ) (path : NodePath) (node : Node) (nodes : List Node)
      → GoesOn at (path ++ index ∷ []) node → GoesTo at index path (node ∷ nodes)
  leads_first index path node nodes (inner, is, has) =
      let here : index ≡ index + 0 = omega arith in
      (0, inner, is ∙ append_assoc path (index ∷ []) inner ∙ ap (λ k. path ++ k ∷ inner) here, has)

  leads_later : (index : ℕ) (path : NodePath) (node : Node) (nodes : List Node)
      → GoesTo at (index + 1) path nodes → GoesTo at index path (node ∷ nodes)
  leads_later index path node nodes (k, inner, is, has) =
      let here : index + 1 + k ≡ index + suc k = omega arith in
      (suc k, inner, is ∙ ap (λ k. path ++ k ∷ inner) here, has)

  items_lead : (nodes : List Node) (index : ℕ) (path : NodePath)
      → ((k : ℕ) (node : Node) → slice_get nodes k ≡ Some node → Leads at node)
      → Contains (kinds_of_items index path (map kinds_in nodes)) at → GoesTo at index path nodes
  items_lead [] index path each has = absurd (omega (arith, has.1))
  items_lead (node ∷ nodes) index path each has =
      let own = kinds_in node (path ++ index ∷ []) in
      let rest = kinds_of_items (index + 1) path (map kinds_in nodes) in
      elim (Contains-append_cases own rest at has) [
        | inl here ↦ leads_first index path node nodes (each 0 node refl (path ++ index ∷ []) here)
        | inr later ↦ leads_later index path node nodes
            (items_lead nodes (index + 1) path (λ k child is. each (suc k) child is) later)
      ]

  node_first : (node : Node) (path : NodePath) → (path, kind_of node) ≡ at → GoesOn at path node
  node_first node path is = ([], sym (ap (λ a. a.0) is) ∙ sym (append-nil path), ap (λ a. a.1) is)

  node_later : (node : Node) (path : NodePath) → GoesTo at 0 path (children_of node) → GoesOn at path node
  node_later node path (k, inner, is, has) =
      let here : 0 + k ≡ k = omega arith in
      (k ∷ inner, is ∙ ap (λ k. path ++ k ∷ inner) here, has)

  only : (first : KindAt) → Contains (first ∷ []) at → first ≡ at
  only first (zero, below, is) = is
  only first (suc k, below, is) = absurd (omega (arith, below))

  node_leads : (node : Node) → Leads at node
  node_leads = node_induction (Leads at) (λ node each path has.
      let below = kinds_of_items 0 path (map kinds_in (children_of node)) in
      let whole = subst (λ kinds. Contains kinds at) (kinds_in-is node path) has in
      elim (Contains-append_cases ((path, kind_of node) ∷ []) below at whole) [
        | inl here ↦ node_first node path (only (path, kind_of node) here)
        | inr later ↦ node_later node path (items_lead (children_of node) 0 path each later)
      ])

  -- A path that goes on to a node finds the pair.
  item_found : (nodes : List Node) (index k : ℕ) (path : NodePath) (node : Node)
      → slice_get nodes k ≡ Some node → Contains (kinds_in node (path ++ (index + k) ∷ [])) at
      → Contains (kinds_of_items index path (map kinds_in nodes)) at
  item_found [] index k path node is has = cc
  item_found (first ∷ nodes) index zero path node is has =
      let same : node ≡ first = cc in
      let here : index + 0 ≡ index = omega arith in
      Contains-append_left (kinds_in first (path ++ index ∷ [])) _ at
      (subst (λ n. Contains (kinds_in n (path ++ index ∷ [])) at) same
      (subst (λ k. Contains (kinds_in node (path ++ k ∷ [])) at) here has))
  item_found (first ∷ nodes) index (suc k) path node is has =
      let here : index + suc k ≡ index + 1 + k = omega arith in
      Contains-append_right (kinds_in first (path ++ index ∷ [])) _ at
      (item_found nodes (index + 1) k path node is
      (subst (λ k. Contains (kinds_in node (path ++ k ∷ [])) at) here has))

  -- The pair is found in a node to which a path goes on.
  abbrev Finds : NodePath → Node → Type 0
  Finds inner node = (path : NodePath) → at.0 ≡ path ++ inner → Has at (node_below (Some node) inner)
      → Contains (kinds_in node path) at

  child_found : (k : ℕ) (inner : NodePath) (nodes : List Node) (path : NodePath) (found : Option Node)
      → ((node : Node) → Finds inner node) → slice_get nodes k ≡ found → at.0 ≡ path ++ k ∷ inner
      → Has at (node_below found inner) → Contains (kinds_of_items 0 path (map kinds_in nodes)) at
  child_found k inner nodes path None finds none is has = absurd has
  child_found k inner nodes path (Some child) finds some is has =
      let here : k ≡ 0 + k = omega arith in
      item_found nodes 0 k path child some
      (finds child (path ++ (0 + k) ∷ [])
      (is ∙ sym (append_assoc path (k ∷ []) inner) ∙ ap (λ k. (path ++ k ∷ []) ++ inner) here) has)

  below_found : (inner : NodePath) (node : Node) → Finds inner node
  below_found [] node path is has =
      let same : (path, kind_of node) ≡ at =
      sym (ap (λ p. (p, at.1)) (is ∙ append-nil path) ∙ ap (λ kind. (path, kind)) (sym has)) in
      subst (λ kinds. Contains kinds at) (sym (kinds_in-is node path)) (0, omega arith, same)
  below_found (k ∷ inner) node path is has =
      subst (λ kinds. Contains kinds at) (sym (kinds_in-is node path))
      (Contains-cons (path, kind_of node) _ at
      (child_found k inner (children_of node) path (slice_get (children_of node) k)
      (λ child. below_found inner child) refl is has))

  body_leads : (body : List Node) → GoesTo at 0 [] body → LeadsToKind body at
  body_leads body (k, inner, is, has) =
      let here : 0 + k ≡ k = omega arith in
      subst (λ path. Has at (node_at body path)) (sym (is ∙ ap (λ k. k ∷ inner) here)) has

  body_found : (body : List Node) (path : NodePath) → at.0 ≡ path → Has at (node_at body path)
      → Contains (kinds_of_body body) at
  body_found body [] is has = absurd has
  body_found body (k ∷ inner) is has =
      child_found k inner body [] (slice_get body k) (λ child. below_found inner child) refl is has

  pub found_there : (body : List Node) → Contains (kinds_of_body body) at ↔ LeadsToKind body at
  found_there body = (
    λ has. body_leads body (items_lead body 0 [] (λ k node is. node_leads node) has),
    λ leads. body_found body at.0 refl leads,
  )
