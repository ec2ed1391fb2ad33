-- A body is a script or isn't.
use Rattle.std.proofs.Common.{◌≡◌, ◌↔◌, ℕ, Bool, true, false, inl, inr, List, [], ◌∷◌, Option, Some, None}
use Rattle.std.proofs.Common.{slice_get, All, Contains, IsTrue, IsSome, IsSomeAnd, refl, sym, subst, arith}
use Rattle.std.proofs.lemmas.Bool.{false≢true}
use Rattle.std.proofs.lemmas.List.Elements.{All-cons, All-head, All-nil, All-tail}
use Rattle.deno_graph_source.specs.declared.tree.node.Node.{Node}
use Rattle.deno_graph_source.specs.Node.{kind_of}
use Rattle.deno_graph_dep.specs.internal.ListingPaths.{listing_paths}
use Rattle.deno_graph_dep.specs.Listing.{IsReachable, Rules}
use Rattle.deno_graph_source.specs.NodePath.{NodePath, LeadsTo, node_at}
use Rattle.deno_graph_dep.proofs.Listings.{IsListing-listing_paths}
use Rattle.deno_graph_module_info.specs.Script.{is_await, is_function, is_import_meta, is_module_item}
use Rattle.deno_graph_module_info.specs.Script.{IsAwait, IsImportMeta, IsScript}
use Rattle.deno_graph_module_info.specs.internal.ScriptSteps.{MakesModule}
use Rattle.deno_graph_module_info.proofs.Scripts.{in_body, no_function_around, IsScript-made}
use Rattle.deno_graph_pragmas.proofs.SomeSplit.{Decided}

-- the paths to each `import.meta` and to each await outside functions
abbrev metas : Rules
metas = record {
  is_closed = λ node. false;
  is_member = λ node. is_import_meta (kind_of node);
  is_after_inside = λ node. false;
}

abbrev awaits : Rules
awaits = record {
  is_closed = λ node. is_function (kind_of node);
  is_member = λ node. is_await (kind_of node);
  is_after_inside = λ node. false;
}

to_some : (P : Node → Type 0) (o : Option Node) → IsSomeAnd o P → IsSome o
to_some P None is = absurd is
to_some P (Some node) is = refl

never : (o : Option Node) → IsSomeAnd o (λ node. false ≡ true) → ⊥
never None is = is
never (Some node) is = false≢true is

none_in : (paths : List NodePath) (path : NodePath) → paths ≡ [] → Contains paths path → ⊥
none_in paths path is has =
    let here = subst (λ ps. Contains ps path) is has in absurd (omega (arith, here.1))

-- an item that a script may have: no import or export, and nothing in it makes a module
abbrev IsPlain : Node → Type 0
IsPlain item = is_module_item (kind_of item) ≡ false

decide_items : (body : List Node) → Decided (All IsPlain body)
decide_items [] = inl (All-nil IsPlain)
decide_items (item ∷ body) = by (is_module_item (kind_of item)) refl (decide_items body)
  where
    by : (b : Bool) → is_module_item (kind_of item) ≡ b
        → Decided (All IsPlain body)
        → Decided (All IsPlain (item ∷ body))
    by false is (inl all) = inl (All-cons IsPlain item body is all)
    by false is (inr none) =
        inr (λ all. none (All-tail IsPlain item body all))
    by true is rest = inr (λ all.
        let here : is_module_item (kind_of item) ≡ false =
        All-head IsPlain item body all in
        cc)

module _ (body : List Node) where
  made : listing_paths metas body ≡ [] → listing_paths awaits body ≡ [] → (k : ℕ) (item : Node)
      → slice_get body k ≡ Some item → MakesModule false item → ⊥
  made no_metas no_awaits k item at (path, inl meta) =
      let leads = in_body IsImportMeta body k item path at meta in
      let reachable : IsReachable metas body (k ∷ path) = record {
        to_node = to_some IsImportMeta (node_at body (k ∷ path)) leads;
        is_open = λ front goes closed. never (node_at body front) closed;
      } in
      none_in (listing_paths metas body) (k ∷ path) no_metas
      (((IsListing-listing_paths metas body).members (k ∷ path)).1 (reachable, leads))
  made no_metas no_awaits k item at (path, inr (outside, bare)) =
      let leads = in_body IsAwait body k item path at bare.await in
      let reachable : IsReachable awaits body (k ∷ path) = record {
        to_node = to_some IsAwait (node_at body (k ∷ path)) leads;
        is_open = λ front goes closed. no_function_around body k item path front at bare goes closed;
      } in
      none_in (listing_paths awaits body) (k ∷ path) no_awaits
      (((IsListing-listing_paths awaits body).members (k ∷ path)).1 (reachable, leads))

  first_of : (rules : Rules) (path : NodePath) (paths : List NodePath)
      → listing_paths rules body ≡ path ∷ paths
      → IsReachable rules body path × LeadsTo (λ node. IsTrue (rules.is_member node)) body path
  first_of rules path paths is =
      ((IsListing-listing_paths rules body).members path).0
      (subst (λ ps. Contains ps path) (sym is) (0, omega arith, refl))

  by_paths : All IsPlain body → (ps qs : List NodePath)
      → listing_paths metas body ≡ ps → listing_paths awaits body ≡ qs → Decided (IsScript body)
  by_paths items [] [] no_metas no_awaits =
      inl (IsScript-made body items (λ k item at makes. made no_metas no_awaits k item at makes))
  by_paths items (path ∷ ps) qs is _ =
      inr (λ script. script.no_import_meta path (first_of metas path ps is).1)
  by_paths items [] (path ∷ qs) _ is = inr (λ script.
      let first = first_of awaits path qs is in
      let function = script.awaits_in_functions path first.1 in
      first.0.is_open function.0 function.1 function.2)

  decide_script : Decided (IsScript body)
  decide_script = by (decide_items body)
    where
      by : Decided (All IsPlain body) → Decided (IsScript body)
      by (inl items) = by_paths items (listing_paths metas body) (listing_paths awaits body) refl refl
      by (inr none) = inr (λ script. none script.no_module_item)

  pub some_script : (is_script : Bool) × (IsTrue is_script ↔ IsScript body)
  some_script = by decide_script
    where
      by : Decided (IsScript body) → (is_script : Bool) × (IsTrue is_script ↔ IsScript body)
      by (inl script) = (true, ((λ e. script), (λ is. refl)))
      by (inr none) = (false, ((λ e. absurd (false≢true e)), (λ is. absurd (none is))))
