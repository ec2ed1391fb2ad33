-- The nodes that make a program a module.
use Rattle.std.proofs.Common.{◌≡◌, ℕ, Bool, true, false, ◌||◌, List, [], ◌∷◌, ◌++◌, Option, Some, None}
use Rattle.std.proofs.Common.{slice_get, IsTrue, IsSomeAnd, ◌⊎◌, inl, inr, ap, sym, refl, subst, ◌∙◌, All}
use Rattle.deno_graph_source.specs.declared.tree.node.Node.{Node}
use Rattle.deno_graph_source.specs.Node.{kind_of, children_of}
use Rattle.deno_graph_source.specs.NodePath.{NodePath, node_below, LeadsTo, IsStrictPrefix}
use Rattle.deno_graph_module_info.specs.Script.{is_function, IsAwait, IsFunction, IsImportMeta, IsScript}
use Rattle.deno_graph_module_info.specs.Script.{is_module_item}
use Rattle.deno_graph_module_info.specs.internal.ScriptSteps.{LeadsBelow, IsBareAwait, MakesModule}

-- a path below a child is a path below its parent
below_child : (P : Node → Type 0) (node child : Node) (k : ℕ) (path : NodePath)
    → slice_get (children_of node) k ≡ Some child
    → LeadsBelow P child path → LeadsBelow P node (k ∷ path)
below_child P node child k path at leads = subst (λ o. IsSomeAnd (node_below o path) P) (sym at) leads

of_child : (P : Node → Type 0) (node child : Node) (k : ℕ) (path : NodePath)
    → slice_get (children_of node) k ≡ Some child
    → LeadsBelow P node (k ∷ path) → LeadsBelow P child path
of_child P node child k path at leads = subst (λ o. IsSomeAnd (node_below o path) P) at leads

neither : (a b : Bool) → (a || b) ≡ false → (a ≡ false) × (b ≡ false)
neither false b is = (refl, is)
neither true b is = cc

not_both : {b : Bool} → b ≡ false → IsTrue b → ⊥
not_both is holds = cc

-- a bare await below a child is bare below its parent, if the parent is no function
bare_above : (node child : Node) (k : ℕ) (path : NodePath) → slice_get (children_of node) k ≡ Some child
    → is_function (kind_of node) ≡ false → IsBareAwait child path → IsBareAwait node (k ∷ path)
bare_above node child k path at outside bare = record {
  await = below_child IsAwait node child k path at bare.await;
  bare = λ front goes leads. here front goes leads;
}
  where
    here : (front : NodePath) → IsStrictPrefix front (k ∷ path) → LeadsBelow IsFunction node front → ⊥
    here [] goes leads = not_both outside leads
    here (j ∷ front) goes leads =
        let same : k ≡ j = cc in
        let rest : path ≡ front ++ (goes.index ∷ goes.rest) = cc in
        let below : LeadsBelow IsFunction child front =
        of_child IsFunction node child k front at
        (subst (λ n. LeadsBelow IsFunction node (n ∷ front)) (sym same) leads) in
        bare.bare front (record { index = goes.index; rest = goes.rest; joined = rest }) below

-- if a child makes a module, its parent does
pub MakesModule-above : (inside : Bool) (node child : Node) (k : ℕ)
    → slice_get (children_of node) k ≡ Some child
    → MakesModule (inside || is_function (kind_of node)) child → MakesModule inside node
MakesModule-above inside node child k at (path, inl meta) =
    (k ∷ path, inl (below_child IsImportMeta node child k path at meta))
MakesModule-above inside node child k at (path, inr bare) =
    let out = neither inside (is_function (kind_of node)) bare.0 in
    (k ∷ path, inr (out.0, bare_above node child k path at out.1 bare.1))

-- a bare await below a node that is no function is bare below the node's child
bare_below : (node child : Node) (k : ℕ) (path : NodePath) → slice_get (children_of node) k ≡ Some child
    → IsBareAwait node (k ∷ path) → IsBareAwait child path
bare_below node child k path at bare = record {
  await = of_child IsAwait node child k path at bare.await;
  bare = λ front goes leads. bare.bare (k ∷ front)
      (record { index = goes.index; rest = goes.rest; joined = ap (λ p. k ∷ p) goes.joined })
      (below_child IsFunction node child k front at leads);
}

no_child : (P : Node → Type 0) (node : Node) (k : ℕ) (path : NodePath) (o : Option Node)
    → slice_get (children_of node) k ≡ o
    → LeadsBelow P node (k ∷ path) → (child : Node) × (slice_get (children_of node) k ≡ Some child)
no_child P node k path None at leads = absurd (subst (λ o. IsSomeAnd (node_below o path) P) at leads)
no_child P node k path (Some child) at leads = (child, at)

-- a node that makes a module does so itself or by a child
pub MakesModule-cases : (inside : Bool) (node : Node) → MakesModule inside node
    → (IsImportMeta node ⊎ ((inside ≡ false) × IsAwait node))
    ⊎ ((k : ℕ) × (child : Node) × (slice_get (children_of node) k ≡ Some child)
    × MakesModule (inside || is_function (kind_of node)) child)
MakesModule-cases inside node ([], inl meta) = inl (inl meta)
MakesModule-cases inside node ([], inr bare) = inl (inr (bare.0, bare.1.await))
MakesModule-cases inside node (k ∷ path, inl meta) =
    let child = no_child IsImportMeta node k path (slice_get (children_of node) k) refl meta in
    inr (k, child.0, child.1, (path, inl (of_child IsImportMeta node child.0 k path child.1 meta)))
MakesModule-cases inside node (k ∷ path, inr bare) =
    let child = no_child IsAwait node k path (slice_get (children_of node) k) refl bare.1.await in
    let open_node : is_function (kind_of node) ≡ false =
    not_true (is_function (kind_of node))
    (bare.1.bare [] (record { index = k; rest = path; joined = refl })) in
    inr (
      k,
      child.0,
      child.1,
      (path, inr (both_false bare.0 open_node, bare_below node child.0 k path child.1 bare.1)),
    )
  where
    not_true : (b : Bool) → (IsTrue b → ⊥) → b ≡ false
    not_true true no_way = absurd (no_way refl)
    not_true false no_way = refl

    both_false : {a b : Bool} → a ≡ false → b ≡ false → (a || b) ≡ false
    both_false {a} {b} e f = rw (e, f)

no_prefix_of_nothing : (front : NodePath) → IsStrictPrefix front [] → ⊥
no_prefix_of_nothing [] goes = let e = goes.joined in cc
no_prefix_of_nothing (j ∷ front) goes = let e = goes.joined in cc

-- an await below a node that makes no module is in a function: around the node, the node itself,
-- or a node between
await_in_function : (inside : Bool) (node : Node) (path : NodePath) → LeadsBelow IsAwait node path
    → ¬ MakesModule inside node
    → (inside ≡ true) ⊎ ((front : NodePath) × IsStrictPrefix front path × LeadsBelow IsFunction node front)
await_in_function true node [] await not_made = inl refl
await_in_function false node [] await not_made =
    absurd (not_made (
      [],
      inr
          (refl, record { await = await; bare = λ front goes leads. no_prefix_of_nothing front goes }),
    ))
await_in_function inside node (k ∷ path) await not_made =
    let child = no_child IsAwait node k path (slice_get (children_of node) k) refl await in
    by_node (is_function (kind_of node)) refl child.0 child.1
    (await_in_function (inside || is_function (kind_of node)) child.0 path
    (of_child IsAwait node child.0 k path child.1 await)
    (λ made. not_made (MakesModule-above inside node child.0 k child.1 made)))
  where
    by_inside : (b c : Bool) → (b || c) ≡ true → c ≡ false → b ≡ true
    by_inside true c e f = refl
    by_inside false c e f = cc

    by_node : (b : Bool) → is_function (kind_of node) ≡ b → (child : Node)
        → slice_get (children_of node) k ≡ Some child
        → ((inside || is_function (kind_of node)) ≡ true)
        ⊎ ((front : NodePath) × IsStrictPrefix front path × LeadsBelow IsFunction child front)
        → (inside ≡ true) ⊎ ((front : NodePath) × IsStrictPrefix front (k ∷ path)
        × LeadsBelow IsFunction node front)
    by_node true is child at below = inr ([], record { index = k; rest = path; joined = refl }, is)
    by_node false is child at (inl e) = inl (by_inside inside (is_function (kind_of node)) e is)
    by_node false is child at (inr found) =
        let goes = found.1 in
        inr (
          k ∷ found.0,
          record { index = goes.index; rest = goes.rest; joined = ap (λ p. k ∷ p) goes.joined },
          below_child IsFunction node child k found.0 at found.2,
        )

-- a path from an item is a path from the body
pub in_body : (P : Node → Type 0) (body : List Node) (k : ℕ) (item : Node) (path : NodePath)
    → slice_get body k ≡ Some item
    → LeadsBelow P item path → LeadsTo P body (k ∷ path)
in_body P body k item path at leads = subst (λ o. IsSomeAnd (node_below o path) P) (sym at) leads

of_item : (P : Node → Type 0) (body : List Node) (k : ℕ) (path : NodePath) (o : Option Node)
    → slice_get body k ≡ o
    → LeadsTo P body (k ∷ path) → (item : Node) × (slice_get body k ≡ Some item) × LeadsBelow P item path
of_item P body k path None at leads = absurd (subst (λ o. IsSomeAnd (node_below o path) P) at leads)
of_item P body k path (Some item) at leads = (item, at, subst (λ o. IsSomeAnd (node_below o path) P) at leads)

-- a body is a script if no item is an import or an export and no item makes a module
pub IsScript-made : (body : List Node) → All (λ item. is_module_item (kind_of item) ≡ false) body
    → ((k : ℕ) (item : Node) → slice_get body k ≡ Some item → ¬ MakesModule false item) → IsScript body
IsScript-made body items none = record {
  no_module_item = items;
  awaits_in_functions = λ path leads. awaits path leads;
  no_import_meta = λ path leads. metas path leads;
}
  where
    awaits : (path : NodePath) → LeadsTo IsAwait body path
        → (front : NodePath) × IsStrictPrefix front path × LeadsTo IsFunction body front
    awaits [] leads = absurd leads
    awaits (k ∷ path) leads =
        let item = of_item IsAwait body k path (slice_get body k) refl leads in
        from_item k path item.0 item.1 (await_in_function false item.0 path item.2 (none k item.0 item.1))
      where
        from_item : (k : ℕ) (path : NodePath) (item : Node) → slice_get body k ≡ Some item
            → (false ≡ true) ⊎ ((front : NodePath) × IsStrictPrefix front path
            × LeadsBelow IsFunction item front)
            → (front : NodePath) × IsStrictPrefix front (k ∷ path) × LeadsTo IsFunction body front
        from_item k path item at (inl e) = cc
        from_item k path item at (inr found) =
            let goes = found.1 in (
              k ∷ found.0,
              record { index = goes.index; rest = goes.rest; joined = ap (λ p. k ∷ p) goes.joined },
              in_body IsFunction body k item found.0 at found.2,
            )

    metas : (path : NodePath) → LeadsTo IsImportMeta body path → ⊥
    metas [] leads = absurd leads
    metas (k ∷ path) leads =
        let item = of_item IsImportMeta body k path (slice_get body k) refl leads in
        none k item.0 item.1 (path, inl item.2)

-- no function contains a bare await
pub no_function_around : (body : List Node) (k : ℕ) (item : Node) (path front : NodePath)
    → slice_get body k ≡ Some item → IsBareAwait item path → IsStrictPrefix front (k ∷ path)
    → LeadsTo IsFunction body front → ⊥
no_function_around body k item path [] at bare goes leads = leads
no_function_around body k item path (j ∷ front) at bare goes leads =
    let same : k ≡ j = let e = goes.joined in cc in
    let rest : path ≡ front ++ (goes.index ∷ goes.rest) = let e = goes.joined in cc in
    bare.bare front (record { index = goes.index; rest = goes.rest; joined = rest })
    (subst (λ o. IsSomeAnd (node_below o front) IsFunction) (ap (slice_get body) (sym same) ∙ at) leads)

-- no item of a script makes a module
pub IsScript-makes_none : (body : List Node) (k : ℕ) (item : Node) → slice_get body k ≡ Some item
    → IsScript body → ¬ MakesModule false item
IsScript-makes_none body k item at script (path, inl meta) =
    script.no_import_meta (k ∷ path) (in_body IsImportMeta body k item path at meta)
IsScript-makes_none body k item at script (path, inr (outside, bare)) =
    let found = script.awaits_in_functions (k ∷ path) (in_body IsAwait body k item path at bare.await) in
    no_function_around body k item path found.0 at bare found.1 found.2
