-- The listing by recursion on the tree: its members are the paths that a descent from a node finds, and
-- they ascend.
use Rattle.std.proofs.Common.{◌≡◌, ℕ, zero, suc, ◌<◌, List, [], ◌∷◌, ◌++◌, Bool, true, false, cond, Option}
use Rattle.std.proofs.Common.{Some, None, map, ◌⊎◌, inl, inr, ⊎_elim, sym, ap, ◌∙◌, refl, subst, arith}
use Rattle.std.specs.Prelude.{slice_get, option_map}
use Rattle.std.proofs.lemmas.Option.{slice_get-map}
use Rattle.std.proofs.lemmas.Bool.{false≢true}
use Rattle.deno_graph_source.specs.Node.{children_of}
use Rattle.deno_graph_source.specs.declared.tree.node.Node.{Node}
use Rattle.deno_graph_dep.specs.internal.ListingPaths.{under, here, placed, path_step, paths_at}
use Rattle.deno_graph_dep.specs.internal.ListingPaths.{listing_paths}
use Rattle.deno_graph_dep.specs.Listing.{Rules}
use Rattle.deno_graph_source.specs.NodePath.{NodePath, node_below, node_at}
use Rattle.deno_graph_dep.proofs.Ascending.{Member, Ascending, Member-append, Member-left, Member-right}
use Rattle.deno_graph_dep.proofs.Ascending.{Member-map, Member-mapped, Ascending-append, Ascending-map}
use Rattle.deno_graph_dep.proofs.Ascending.{Ascending-weaker}
use Rattle.deno_graph_dep.proofs.NodePaths.{Before, apart, outer, inner, Before-cons, Before-same}
use Rattle.deno_graph_dep.proofs.Nodes.{node_induction, by_children-is}

pub paths_at-is : (rules : Rules) (node : Node)
    → paths_at rules node ≡ path_step rules node (map (paths_at rules) (children_of node))
unfolding paths_at
paths_at-is rules node = by_children-is (path_step rules) node

-- a member of `under`: the index of a child, and then a path below the child
pub record IsUnder (f : ℕ → ℕ) (pss : List (List NodePath)) (p : NodePath) : Type 0 where
  pub at : ℕ
  pub rest : NodePath
  pub paths : List NodePath
  pub is_there : slice_get pss at ≡ Some paths
  pub in_paths : Member paths rest
  pub is : f at ∷ rest ≡ p

pub Member-under : (f : ℕ → ℕ) (pss : List (List NodePath)) (p : NodePath) → Member (under f pss) p
    → IsUnder f pss p
Member-under f [] p m = absurd m
Member-under f (ps ∷ pss) p m =
    ⊎_elim
    (λ (h : Member (map (λ q. f 0 ∷ q) ps) p). let r = Member-map (λ q. f 0 ∷ q) ps p h in
    record { at = 0; rest = r.0; paths = ps; is_there = refl; in_paths = r.1; is = r.2 })
    (λ (h : Member (under (λ n. f (suc n)) pss) p). let r = Member-under (λ n. f (suc n)) pss p h in
    record {
      at = suc r.at;
      rest = r.rest;
      paths = r.paths;
      is_there = r.is_there;
      in_paths = r.in_paths;
      is = r.is;
    })
    (Member-append (map (λ q. f 0 ∷ q) ps) (under (λ n. f (suc n)) pss) p m)

pub Member-of_under : (f : ℕ → ℕ) (pss : List (List NodePath)) (n : ℕ) (ps : List NodePath) (p : NodePath)
    → slice_get pss n ≡ Some ps → Member ps p → Member (under f pss) (f n ∷ p)
Member-of_under f [] n ps p e m = let no : ⊥ = cc in absurd no
Member-of_under f (qs ∷ pss) zero ps p e m =
    let same : ps ≡ qs = cc in
    let P : List NodePath → Type 0 = λ rs. Member rs p in
    Member-left (map (λ q. f 0 ∷ q) qs) (under (λ k. f (suc k)) pss) (f 0 ∷ p)
    (Member-mapped (λ q. f 0 ∷ q) qs p (subst P same m))
Member-of_under f (qs ∷ pss) (suc n) ps p e m =
    Member-right (map (λ q. f 0 ∷ q) qs) (under (λ k. f (suc k)) pss) (f (suc n) ∷ p)
    (Member-of_under (λ k. f (suc k)) pss n ps p e m)

pub Ascending-under : (after : NodePath → Bool) (f : ℕ → ℕ) → ((m n : ℕ) → m < n → f m < f n)
    → (pss : List (List NodePath))
    → ((n : ℕ) (ps : List NodePath) → slice_get pss n ≡ Some ps
    → Ascending (Before (λ p. after (f n ∷ p))) ps) → Ascending (Before after) (under f pss)
Ascending-under after f grows [] h = tt
Ascending-under after f grows (ps ∷ pss) h =
    Ascending-append (Before after) (map (λ q. f 0 ∷ q) ps) (under (λ n. f (suc n)) pss)
    (Ascending-map (Before (λ p. after (f 0 ∷ p))) (Before after) (λ q. f 0 ∷ q)
    (λ p q b. Before-cons after (f 0) p q b) ps (h 0 ps refl))
    (Ascending-under after (λ n. f (suc n)) (λ m n l. grows (suc m) (suc n) (omega arith)) pss
    (λ n qs e. h (suc n) qs e))
    (λ x y m k.
    let a = Member-map (λ q. f 0 ∷ q) ps x m in
    let b = Member-under (λ n. f (suc n)) pss y k in
    let l : f 0 < f (suc b.at) = grows 0 (suc b.at) (omega arith) in
    let P : NodePath → Type 0 = λ z. Before after z y in
    let Q : NodePath → Type 0 = λ z. Before after (f 0 ∷ a.0) z in
    subst P a.2 (subst Q b.is (apart (inl l))))

-- a descent from the node along the path passes no closed node, and ends at a member
abbrev pub Found : Rules → Node → NodePath → Type 0
Found rules node [] = rules.is_member node ≡ true
Found rules node (n ∷ p) =
    (rules.is_closed node ≡ false)
    × ((child : Node) × (slice_get (children_of node) n ≡ Some child) × Found rules child p)

Member-here : (b : Bool) (p : NodePath) → Member (here b) p → (b ≡ true) × (p ≡ [])
Member-here true p (inl e) = (refl, sym e)
Member-here true p (inr m) = absurd m
Member-here false p m = absurd m

Member-of_here : (b : Bool) → b ≡ true → Member (here b) []
Member-of_here true e = inl refl
Member-of_here false e = absurd (false≢true e)

Member-unless : {A : Type 0} (b : Bool) (xs : List A) (x : A) → Member (cond b [] xs) x
    → (b ≡ false) × Member xs x
Member-unless true xs x m = absurd m
Member-unless false xs x m = (refl, m)

Member-of_unless : {A : Type 0} (b : Bool) (xs : List A) (x : A) → b ≡ false → Member xs x
    → Member (cond b [] xs) x
Member-of_unless true xs x e m = absurd (false≢true (sym e))
Member-of_unless false xs x e m = m

Member-when : {A : Type 0} (b : Bool) (xs : List A) (x : A) → Member (cond b xs []) x
    → (b ≡ true) × Member xs x
Member-when true xs x m = (refl, m)
Member-when false xs x m = absurd m

-- a member is the node's own, or comes from its inside
Member-placed : {A : Type 0} (rules : Rules) (node : Node) (own inside : List A) (x : A)
    → Member (placed rules node own inside) x
    → Member own x ⊎ ((rules.is_closed node ≡ false) × Member inside x)
Member-placed rules node own inside x m =
    let after = rules.is_after_inside node in
    let closed = rules.is_closed node in
    ⊎_elim
    (λ h. ⊎_elim (λ k. inl (Member-unless after own x k).1) (λ k. inr (Member-unless closed inside x k))
    (Member-append (cond after [] own) (cond closed [] inside) x h))
    (λ h. inl (Member-when after own x h).1)
    (Member-append (cond after [] own ++ cond closed [] inside) (cond after own []) x m)

Member-of_own_by : {A : Type 0} (after : Bool) (own inside : List A) (x : A) → Member own x
    → Member (cond after [] own ++ inside ++ cond after own []) x
Member-of_own_by true own inside x m = Member-right ([] ++ inside) own x m
Member-of_own_by false own inside x m = Member-left (own ++ inside) [] x (Member-left own inside x m)

Member-of_own : {A : Type 0} (rules : Rules) (node : Node) (own inside : List A) (x : A) → Member own x
    → Member (placed rules node own inside) x
Member-of_own rules node own inside x m =
    Member-of_own_by (rules.is_after_inside node) own (cond (rules.is_closed node) [] inside) x m

Member-of_inside : {A : Type 0} (rules : Rules) (node : Node) (own inside : List A) (x : A)
    → rules.is_closed node ≡ false → Member inside x → Member (placed rules node own inside) x
Member-of_inside rules node own inside x open' m =
    let after = rules.is_after_inside node in
    let closed = rules.is_closed node in
    Member-left (cond after [] own ++ cond closed [] inside) (cond after own []) x
    (Member-right (cond after [] own) (cond closed [] inside) x (Member-of_unless closed inside x open' m))

-- a member of a mapped list or option is the image of a member
pub got_map : {A B : Type 0} (f : A → B) (o : Option A) (y : B) → option_map f o ≡ Some y
    → (x : A) × (o ≡ Some x) × (f x ≡ y)
got_map f None y e = let no : ⊥ = cc in absurd no
got_map f (Some x) y e = let s : f x ≡ y = cc in (x, refl, s)

-- a descent finds each member of the listing
pub Found-from_Member : (rules : Rules) (p : NodePath) (node : Node) → Member (paths_at rules node) p
    → Found rules node p
Found-from_Member rules [] node m =
    let P : List NodePath → Type 0 = λ ps. Member ps [] in
    let inside = under (λ n. n) (map (paths_at rules) (children_of node)) in
    ⊎_elim
    (λ (h : Member (here (rules.is_member node)) []). (Member-here (rules.is_member node) [] h).0)
    (λ (h : (rules.is_closed node ≡ false) × Member inside []). let u = Member-under (λ n. n)
    (map (paths_at rules) (children_of node)) [] h.1 in let e = u.is in cc)
    (Member-placed rules node (here (rules.is_member node)) inside [] (subst P (paths_at-is rules node) m))
Found-from_Member rules (n ∷ p) node m =
    let P : List NodePath → Type 0 = λ ps. Member ps (n ∷ p) in
    let inside = under (λ k. k) (map (paths_at rules) (children_of node)) in
    ⊎_elim
    (λ (h : Member (here (rules.is_member node)) (n ∷ p)). let e =
    (Member-here (rules.is_member node) (n ∷ p) h).1 in let no : ⊥ = cc in absurd no)
    (λ (h : (rules.is_closed node ≡ false) × Member inside (n ∷ p)).
    let u = Member-under (λ k. k) (map (paths_at rules) (children_of node)) (n ∷ p) h.1 in
    let e = u.is in
    let g = got_map (paths_at rules) (slice_get (children_of node) u.at) u.paths
    (sym (slice_get-map (paths_at rules) (children_of node) u.at) ∙ u.is_there) in
    let index : u.at ≡ n = cc in
    let rest : u.rest ≡ p = cc in
    let Q : NodePath → Type 0 = λ q. Member (paths_at rules g.0) q in
    let R : List NodePath → Type 0 = λ ps. Member ps u.rest in (
      h.0,
      (
        g.0,
        ap (λ k. slice_get (children_of node) k) (sym index)
            ∙ g.1,
        Found-from_Member rules p g.0 (subst Q rest (subst R (sym g.2) u.in_paths)),
      ),
    ))
    (Member-placed rules node (here (rules.is_member node)) inside (n ∷ p)
    (subst P (paths_at-is rules node) m))

-- each path that a descent finds is a member of the listing
pub Member-from_Found : (rules : Rules) (p : NodePath) (node : Node) → Found rules node p
    → Member (paths_at rules node) p
Member-from_Found rules [] node f =
    let P : List NodePath → Type 0 = λ ps. Member ps [] in
    subst P (sym (paths_at-is rules node))
    (Member-of_own rules node (here (rules.is_member node))
    (under (λ k. k) (map (paths_at rules) (children_of node))) [] (Member-of_here (rules.is_member node) f))
Member-from_Found rules (n ∷ p) node f =
    let P : List NodePath → Type 0 = λ ps. Member ps (n ∷ p) in
    let inside = under (λ k. k) (map (paths_at rules) (children_of node)) in
    let there : slice_get (map (paths_at rules) (children_of node)) n ≡ Some (paths_at rules f.1.0) =
    slice_get-map (paths_at rules) (children_of node) n ∙ ap (λ o. option_map (paths_at rules) o) f.1.1 in
    subst P (sym (paths_at-is rules node))
    (Member-of_inside rules node (here (rules.is_member node)) inside (n ∷ p) f.0
    (Member-of_under (λ k. k) (map (paths_at rules) (children_of node)) n (paths_at rules f.1.0) p there
    (Member-from_Found rules p f.1.0 f.1.2)))

-- whether there is a node and it comes after its inside
abbrev pub is_after : Rules → Option Node → Bool
is_after rules None = false
is_after rules (Some node) = rules.is_after_inside node

abbrev pub after_below : Rules → Node → NodePath → Bool
after_below rules node p = is_after rules (node_below (Some node) p)

-- the node's own path and those inside it ascend
ascending_own : (after : NodePath → Bool) (b own : Bool) (mid : List NodePath) → after [] ≡ b
    → ((p : NodePath) → Member mid p → (n : ℕ) × (q : NodePath) × (n ∷ q ≡ p)) → Ascending (Before after) mid
    → Ascending (Before after) (cond b [] (here own) ++ mid ++ cond b (here own) [])
ascending_own after false own mid e f a =
    Ascending-append (Before after) (here own ++ mid) []
    (Ascending-append (Before after) (here own) mid (one own) a
    (λ x y m k. let h = Member-here own x m in let g = f y k in
    let P : NodePath → Type 0 = λ z. Before after z y in
    let Q : NodePath → Type 0 = λ z. Before after [] z in
    subst P (sym h.1) (subst Q g.2 (outer tt e))))
    tt (λ x y m k. absurd k)
  where
    one : (b : Bool) → Ascending (Before after) (here b)
    one true = (λ y m. absurd m, tt)
    one false = tt
ascending_own after true own mid e f a =
    Ascending-append (Before after) mid (here own) a (one own)
    (λ x y m k. let h = Member-here own y k in let g = f x m in
    let P : NodePath → Type 0 = λ z. Before after x z in
    let Q : NodePath → Type 0 = λ z. Before after z [] in
    subst P (sym h.1) (subst Q g.2 (inner tt e)))
  where
    one : (b : Bool) → Ascending (Before after) (here b)
    one true = (λ y m. absurd m, tt)
    one false = tt

Ascending-unless : {A : Type 0} (R : A → A → Type 0) (b : Bool) (xs : List A) → Ascending R xs
    → Ascending R (cond b [] xs)
Ascending-unless R true xs a = tt
Ascending-unless R false xs a = a

-- the paths below consecutive nodes ascend, where `after` agrees with the rules at each path
pub Ascending-inside : (rules : Rules) (nodes : List Node) (after : NodePath → Bool)
    → ((n : ℕ) (child : Node) → slice_get nodes n ≡ Some child → (p : NodePath)
    → after (n ∷ p) ≡ after_below rules child p)
    → ((n : ℕ) (child : Node) → slice_get nodes n ≡ Some child
    → Ascending (Before (after_below rules child)) (paths_at rules child))
    → Ascending (Before after) (under (λ n. n) (map (paths_at rules) nodes))
Ascending-inside rules nodes after agrees each =
    Ascending-under after (λ n. n) (λ m n l. l) (map (paths_at rules) nodes)
    (λ n ps e.
    let g = got_map (paths_at rules) (slice_get nodes n) ps
    (sym (slice_get-map (paths_at rules) nodes n) ∙ e) in
    let P : List NodePath → Type 0 = λ qs. Ascending (Before (λ p. after (n ∷ p))) qs in
    subst P g.2
    (Ascending-weaker (Before (after_below rules g.0)) (Before (λ p. after (n ∷ p)))
    (λ p q b. Before-same _ _ (λ r. sym (agrees n g.0 g.1 r)) p q b) (paths_at rules g.0) (each n g.0 g.1)))

pub Ascending-paths_at : (rules : Rules) (node : Node)
    → Ascending (Before (after_below rules node)) (paths_at rules node)
Ascending-paths_at rules =
    node_induction (λ node. Ascending (Before (after_below rules node)) (paths_at rules node)) (λ node each.
    let P : List NodePath → Type 0 = λ ps. Ascending (Before (after_below rules node)) ps in
    let nodes = children_of node in
    let inside = under (λ n. n) (map (paths_at rules) nodes) in
    let closed = rules.is_closed node in
    subst P (sym (paths_at-is rules node))
    (ascending_own (after_below rules node) (rules.is_after_inside node) (rules.is_member node)
    (cond closed [] inside) refl
    (λ p m. let u = Member-under (λ n. n) (map (paths_at rules) nodes) p
    (Member-unless closed inside p m).1 in (u.at, u.rest, u.is))
    (Ascending-unless (Before (after_below rules node)) closed inside
    (Ascending-inside rules nodes (after_below rules node)
    (λ n child e p. ap (λ o. is_after rules (node_below o p)) e) each))))

-- the listing of a body ascends
pub Ascending-listing_paths : (rules : Rules) (body : List Node)
    → Ascending (Before (λ p. is_after rules (node_at body p))) (listing_paths rules body)
unfolding listing_paths
Ascending-listing_paths rules body =
    Ascending-inside rules body (λ p. is_after rules (node_at body p))
    (λ n child e p. ap (λ o. is_after rules (node_below o p)) e)
    (λ n child e. Ascending-paths_at rules child)
