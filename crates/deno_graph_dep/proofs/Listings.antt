-- A body has exactly one listing, and of two different paths exactly one precedes the other.
use Rattle.std.proofs.Common.{◌≡◌, ℕ, List, [], ◌∷◌, Bool, true, Option, Some, None, map, ◌⊎◌, inl, inr}
use Rattle.std.proofs.Common.{⊎_elim, ◌≢◌, sym, ap, ◌∙◌, refl, subst}
use Rattle.std.specs.Prelude.{slice_get, option_map, IsSome, IsSomeAnd, IsTrue}
use Rattle.std.proofs.lemmas.Bool.{false≢true, false_from_ne_true}
use Rattle.deno_graph_source.specs.Node.{children_of}
use Rattle.deno_graph_source.specs.declared.tree.node.Node.{Node}
use Rattle.deno_graph_dep.specs.Listing as listing
use Rattle.deno_graph_dep.specs.Listing.{Rules, IsReachable, IsMember, Precedes, IsListing}
use Rattle.deno_graph_source.specs.NodePath.{NodePath, node_below, node_at}
use Rattle.deno_graph_dep.proofs.Ascending.{Member, Ascending, Ascending-unique, Ascending-weaker}
use Rattle.deno_graph_dep.proofs.Ascending.{Contains-from_Member, Member-from_Contains}
use Rattle.deno_graph_dep.proofs.Ascending.{AllPairs-from_Ascending, Ascending-from_AllPairs}
use Rattle.deno_graph_dep.proofs.ListingPaths.{Found, Found-from_Member, Member-from_Found, is_after}
use Rattle.deno_graph_dep.proofs.ListingPaths.{Ascending-listing_paths, Member-under, Member-of_under}
use Rattle.deno_graph_dep.proofs.ListingPaths.{got_map}
use Rattle.deno_graph_dep.specs.internal.ListingPaths.{listing_paths, paths_at}
use Rattle.deno_graph_dep.proofs.NodePaths.{Below, Below-from_IsStrictPrefix, IsStrictPrefix-from_Below}
use Rattle.deno_graph_dep.proofs.NodePaths.{Apart-from_PartsBelow, PartsBelow-from_Apart, Before, apart}
use Rattle.deno_graph_dep.proofs.NodePaths.{outer, inner, Before-asymmetric, Before-total, Before-transitive}
use Rattle.std.proofs.lemmas.Option.{slice_get-map}

after_true : (rules : Rules) (o : Option Node) → IsSomeAnd o (λ node. IsTrue (rules.is_after_inside node))
    → is_after rules o ≡ true
after_true rules None h = absurd h
after_true rules (Some node) h = h

of_after_true : (rules : Rules) (o : Option Node) → is_after rules o ≡ true
    → IsSomeAnd o (λ node. IsTrue (rules.is_after_inside node))
of_after_true rules None h = absurd (false≢true h)
of_after_true rules (Some node) h = h

unfoldable pub after_at : Rules → List Node → NodePath → Bool
after_at rules body p = is_after rules (node_at body p)

ascends : (rules : Rules) (body : List Node)
    → Ascending (Before (after_at rules body)) (listing_paths rules body)
unfolding after_at
ascends rules body = Ascending-listing_paths rules body

-- the tree order agrees with the order by recursion on both paths
pub Before-from_Precedes : (rules : Rules) (body : List Node) (p q : NodePath) → Precedes rules body p q
    → Before (after_at rules body) p q
unfolding after_at
Before-from_Precedes rules body p q (listing.apart a) = apart (Apart-from_PartsBelow p q a)
Before-from_Precedes rules body p q (listing.outer_first g n) =
    outer (Below-from_IsStrictPrefix p q g)
    (false_from_ne_true (is_after rules (node_at body p))
    (λ e. n (of_after_true rules (node_at body p) e)))
Before-from_Precedes rules body p q (listing.inner_first g a) =
    inner (Below-from_IsStrictPrefix q p g) (after_true rules (node_at body q) a)

pub Precedes-from_Before : (rules : Rules) (body : List Node) (p q : NodePath)
    → Before (after_at rules body) p q → Precedes rules body p q
unfolding after_at
Precedes-from_Before rules body p q (apart a) = listing.apart (PartsBelow-from_Apart p q a)
Precedes-from_Before rules body p q (outer b f) =
    listing.outer_first (IsStrictPrefix-from_Below p q b)
    (λ h. false≢true (sym f ∙ after_true rules (node_at body p) h))
Precedes-from_Before rules body p q (inner b t) =
    listing.inner_first (IsStrictPrefix-from_Below q p b) (of_after_true rules (node_at body q) t)

-- the tree order is asymmetric
pub Precedes-asymmetric : (rules : Rules) (body : List Node) (p q : NodePath) → Precedes rules body p q
    → Precedes rules body q p → ⊥
Precedes-asymmetric rules body p q a b =
    Before-asymmetric (after_at rules body) p q (Before-from_Precedes rules body p q a)
    (Before-from_Precedes rules body q p b)

-- the tree order is total
pub Precedes-total : (rules : Rules) (body : List Node) (p q : NodePath) → p ≢ q
    → Precedes rules body p q ⊎ Precedes rules body q p
Precedes-total rules body p q ne =
    ⊎_elim (λ (e : p ≡ q). absurd (ne e))
    (λ (w : Before (after_at rules body) p q ⊎ Before (after_at rules body) q p).
    ⊎_elim (λ h. inl (Precedes-from_Before rules body p q h))
    (λ h. inr (Precedes-from_Before rules body q p h)) w)
    (Before-total (after_at rules body) p q)

-- the tree order is transitive
pub Precedes-transitive : (rules : Rules) (body : List Node) (p q r : NodePath) → Precedes rules body p q
    → Precedes rules body q r → Precedes rules body p r
Precedes-transitive rules body p q r a b =
    Precedes-from_Before rules body p r
    (Before-transitive (after_at rules body) p q r (Before-from_Precedes rules body p q a)
    (Before-from_Precedes rules body q r b))

-- a body has one listing at most
pub IsListing-unique : (rules : Rules) (body : List Node) (ps qs : List NodePath) → IsListing rules body ps
    → IsListing rules body qs → ps ≡ qs
IsListing-unique rules body ps qs a b =
    Ascending-unique (Precedes rules body) (Precedes-asymmetric rules body) ps qs
    (Ascending-from_AllPairs (Precedes rules body) ps a.ascending)
    (Ascending-from_AllPairs (Precedes rules body) qs b.ascending)
    (λ p m. Member-from_Contains qs p ((b.members p).1 ((a.members p).0 (Contains-from_Member ps p m))))
    (λ p m. Member-from_Contains ps p ((a.members p).1 ((b.members p).0 (Contains-from_Member qs p m))))

-- the members of the listing by recursion are the reachable paths that belong to the listing
abbrev FoundIn : Rules → List Node → NodePath → Type 0
FoundIn rules body [] = ⊥
FoundIn rules body (n ∷ p) = (node : Node) × (slice_get body n ≡ Some node) × Found rules node p

found_is_member : (rules : Rules) (p : NodePath) (node : Node) → Found rules node p
    → IsSomeAnd (node_below (Some node) p) (λ m. IsTrue (rules.is_member m))
found_is_member rules [] node f = f
found_is_member rules (n ∷ p) node f =
    let P : Option Node → Type 0 = λ o. IsSomeAnd (node_below o p) (λ m. IsTrue (rules.is_member m)) in
    subst P (sym f.1.1) (found_is_member rules p f.1.0 f.1.2)

open_found : (rules : Rules) (p front : NodePath) (node : Node) → Found rules node p → Below front p
    → IsSomeAnd (node_below (Some node) front) (λ m. IsTrue (rules.is_closed m)) → ⊥
open_found rules [] [] node f b h = b
open_found rules [] (m ∷ front) node f b h = b
open_found rules (n ∷ p) [] node f b h = false≢true (sym f.0 ∙ h)
open_found rules (n ∷ p) (m ∷ front) node f b h =
    let P : Option Node → Type 0 = λ o. IsSomeAnd (node_below o front) (λ k. IsTrue (rules.is_closed k)) in
    let Q : ℕ → Type 0 = λ k. P (slice_get (children_of node) k) in
    open_found rules p front f.1.0 f.1.2 b.1 (subst P f.1.1 (subst Q b.0 h))

is_some_and : (P : Node → Type 0) (o : Option Node) → IsSomeAnd o P → IsSome o
is_some_and P None h = absurd h
is_some_and P (Some node) h = refl

-- the child that a path goes through
found_child : (rules : Rules) (nodes : List Node) (n : ℕ) (p : NodePath) (c : Option Node)
    → slice_get nodes n ≡ c → IsSomeAnd (node_below c p) (λ m. IsTrue (rules.is_member m))
    → ((child : Node) → slice_get nodes n ≡ Some child → Found rules child p)
    → (child : Node) × (slice_get nodes n ≡ Some child) × Found rules child p
found_child rules nodes n p None e l f = absurd l
found_child rules nodes n p (Some child) e l f = (child, e, f child e)

found_below : (rules : Rules) (p : NodePath) (node : Node)
    → IsSomeAnd (node_below (Some node) p) (λ m. IsTrue (rules.is_member m))
    → ((front : NodePath) → Below front p
    → IsSomeAnd (node_below (Some node) front) (λ m. IsTrue (rules.is_closed m)) → ⊥) → Found rules node p
found_below rules [] node l o = l
found_below rules (n ∷ p) node l o = (
  false_from_ne_true (rules.is_closed node) (o [] tt),
  found_child rules (children_of node) n p (slice_get (children_of node) n) refl l (λ child e.
      let P : Option Node → Type 0 = λ c. IsSomeAnd (node_below c p) (λ m. IsTrue (rules.is_member m)) in
      let Q : NodePath → Option Node → Type 0 =
      λ front c. IsSomeAnd (node_below c front) (λ m. IsTrue (rules.is_closed m)) in
      found_below rules p child (subst P e l)
      (λ front b h. o (n ∷ front) (refl, b) (subst (Q front) (sym e) h))),
)

reachable_found : (rules : Rules) (body : List Node) (p : NodePath) → FoundIn rules body p
    → IsReachable rules body p × IsMember rules body p
reachable_found rules body [] f = absurd f
reachable_found rules body (n ∷ p) f =
    let P : Option Node → Type 0 = λ o. IsSomeAnd (node_below o p) (λ m. IsTrue (rules.is_member m)) in
    let member : IsMember rules body (n ∷ p) = subst P (sym f.1) (found_is_member rules p f.0 f.2) in (
      record {
        to_node = is_some_and (λ m. IsTrue (rules.is_member m)) (node_at body (n ∷ p)) member;
        is_open = λ front g h. open_in front (Below-from_IsStrictPrefix front (n ∷ p) g) h;
      },
      member,
    )
  where
    open_in : (front : NodePath) → Below front (n ∷ p)
        → IsSomeAnd (node_at body front) (λ m. IsTrue (rules.is_closed m)) → ⊥
    open_in [] b h = h
    open_in (m ∷ front) b h =
        let P : Option Node → Type 0 =
        λ o. IsSomeAnd (node_below o front) (λ k. IsTrue (rules.is_closed k)) in
        let Q : ℕ → Type 0 = λ k. P (slice_get body k) in
        open_found rules p front f.0 f.2 b.1 (subst P f.1 (subst Q b.0 h))

found_reachable : (rules : Rules) (body : List Node) (p : NodePath) → IsReachable rules body p
    → IsMember rules body p → FoundIn rules body p
found_reachable rules body [] r l = absurd l
found_reachable rules body (n ∷ p) r l =
    found_child rules body n p (slice_get body n) refl l (λ node e.
    let P : Option Node → Type 0 = λ c. IsSomeAnd (node_below c p) (λ m. IsTrue (rules.is_member m)) in
    let Q : NodePath → Option Node → Type 0 =
    λ front c. IsSomeAnd (node_below c front) (λ m. IsTrue (rules.is_closed m)) in
    found_below rules p node (subst P e l)
    (λ front b h. r.is_open (n ∷ front) (IsStrictPrefix-from_Below (n ∷ front) (n ∷ p) (refl, b))
    (subst (Q front) (sym e) h)))

found_member : (rules : Rules) (body : List Node) (p : NodePath) → Member (listing_paths rules body) p
    → FoundIn rules body p
unfolding listing_paths
found_member rules body p m =
    let u = Member-under (λ n. n) (map (paths_at rules) body) p m in
    let g = got_map (paths_at rules) (slice_get body u.at) u.paths
    (sym (slice_get-map (paths_at rules) body u.at) ∙ u.is_there) in
    let R : List NodePath → Type 0 = λ ps. Member ps u.rest in
    let P : NodePath → Type 0 = λ q. FoundIn rules body q in
    let at_child : FoundIn rules body (u.at ∷ u.rest) =
    (g.0, g.1, Found-from_Member rules u.rest g.0 (subst R (sym g.2) u.in_paths)) in
    subst P u.is at_child

member_found : (rules : Rules) (body : List Node) (p : NodePath) → FoundIn rules body p
    → Member (listing_paths rules body) p
unfolding listing_paths
member_found rules body [] f = absurd f
member_found rules body (n ∷ p) f =
    let there : slice_get (map (paths_at rules) body) n ≡ Some (paths_at rules f.0) =
    slice_get-map (paths_at rules) body n ∙ ap (λ o. option_map (paths_at rules) o) f.1 in
    Member-of_under (λ k. k) (map (paths_at rules) body) n (paths_at rules f.0) p there
    (Member-from_Found rules p f.0 f.2)

-- the listing by recursion is a listing
pub IsListing-listing_paths : (rules : Rules) (body : List Node)
    → IsListing rules body (listing_paths rules body)
IsListing-listing_paths rules body = record {
  members = λ p. (
    λ c. reachable_found rules body p
        (found_member rules body p (Member-from_Contains (listing_paths rules body) p c)),
    λ h. Contains-from_Member (listing_paths rules body) p
        (member_found rules body p (found_reachable rules body p h.0 h.1)),
  );
  ascending = AllPairs-from_Ascending (Precedes rules body) (listing_paths rules body)
      (Ascending-weaker (Before (after_at rules body)) (Precedes rules body) (Precedes-from_Before rules body)
      (listing_paths rules body) (ascends rules body));
}
