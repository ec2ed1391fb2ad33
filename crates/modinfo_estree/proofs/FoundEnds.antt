-- Finding where values end, range by range.
use Rattle.std.proofs.Common.{◌≡◌, ℕ, ◌+◌, ◌<◌, Bool, true, false, ◌&&◌, ◌||◌, ◌==◌, List, [], ◌∷◌, ◌++◌}
use Rattle.std.proofs.Common.{cond, length, map, take, get_or, refl, sym, ap, subst, ◌∙◌, arith}
use Rattle.std.proofs.lemmas.Grind.{flat_map-append}
use Rattle.std.proofs.lemmas.List.{append-nil, append_assoc, ext_get_or, map-append, take_more}
use Rattle.std.proofs.lemmas.List.Folds.{list_any-append}
use Rattle.std.proofs.lemmas.List.FromFn.{get_or-map-range_with_len, length-map-range_with_len}
use Rattle.std.specs.BTreeMap.{is_at}
use Rattle.std.specs.BTreeSet.{BTreeSet}
use Rattle.std.specs.Cmp.{unsigned_tied}
use Rattle.std.specs.List.{flat_map, list_any, range_with_len}
use Rattle.std.specs.Ordering.{nat_cmp}
use Rattle.deno_graph_base.specs.declared.text.position.SourceRange.{SourceRange}
use Rattle.deno_graph_source.specs.Node.{nodes_in, range_of}
use Rattle.deno_graph_source.specs.declared.tree.node.Node.{Node}
use Rattle.modinfo_estree.specs.ValueEnds.{ends_value, has_value, ranges_in, value_ends}
use Rattle.modinfo_estree.specs.internal.ValueEnds.{AreAdded, is_among, table_of}

or_false : (t : Bool) → (t || false) ≡ t
or_false true = refl
or_false false = refl

and_false : (t : Bool) → (t && false) ≡ false
and_false true = refl
and_false false = refl

and_true : (t : Bool) → (t && true) ≡ t
and_true true = refl
and_true false = refl

or_assoc : (a b c : Bool) → ((a || b) || c) ≡ (a || (b || c))
or_assoc true b c = refl
or_assoc false b c = refl

-- An offset that is there, or is the one that was added.
with_added : (added old : Bool) → cond added true old ≡ (old || (added || false))
with_added true true = refl
with_added true false = refl
with_added false true = refl
with_added false false = refl

module _ (text : List ℕ) where
  -- ---- One range

  pub no_value : (range : SourceRange) (ends : BTreeSet ℕ) → has_value text range ≡ false
      → AreAdded text (range ∷ []) ends ends
  no_value range ends none at =
      sym (ap (λ t. is_among ends at || (((range.end == at) && t) || false)) none
      ∙ ap (λ t. is_among ends at || (t || false)) (and_false (range.end == at))
      ∙ or_false (is_among ends at))

  pub value_added : (range : SourceRange) (old new : BTreeSet ℕ) → has_value text range ≡ true
      → ((at : ℕ) → is_among new at ≡ cond (is_at (nat_cmp range.end) at) true (is_among old at))
      → AreAdded text (range ∷ []) old new
  value_added range old new is updates at =
      updates at
      ∙ ap (λ t. cond t true (is_among old at)) (unsigned_tied range.end at)
      ∙ with_added (range.end == at) (is_among old at)
      ∙ sym (ap (λ t. is_among old at || (((range.end == at) && t) || false)) is
      ∙ ap (λ t. is_among old at || (t || false)) (and_true (range.end == at)))

  -- ---- Several ranges

  pub none_added : (ends : BTreeSet ℕ) → AreAdded text [] ends ends
  none_added ends at = sym (or_false (is_among ends at))

  pub more_added : (first second : List SourceRange) (old mid new : BTreeSet ℕ) → AreAdded text first old mid
      → AreAdded text second mid new → AreAdded text (first ++ second) old new
  more_added first second old mid new so_far more at =
      let is_end : SourceRange → Bool = ends_value text at in
      more at
      ∙ ap (λ t. t || list_any is_end second) (so_far at)
      ∙ or_assoc (is_among old at) (list_any is_end first) (list_any is_end second)
      ∙ ap (λ t. is_among old at || t) (sym (list_any-append is_end first second))

  -- ---- Nodes

  ranges_more : (nodes : List Node) (i : ℕ) (node : Node) → i < length nodes → node ≡ get_or nodes i node
      → ranges_in (take (i + 1) nodes) ≡ ranges_in (take i nodes) ++ map range_of (nodes_in node)
  ranges_more nodes i node within is =
      ap ranges_in (take_more nodes i node within ∙ ap (λ n. take i nodes ++ n ∷ []) (sym is))
      ∙ ap (map range_of) (flat_map-append nodes_in (take i nodes) (node ∷ []))
      ∙ map-append range_of (flat_map nodes_in (take i nodes)) (nodes_in node ++ [])
      ∙ ap (λ ns. ranges_in (take i nodes) ++ map range_of ns) (append-nil (nodes_in node))

  -- The nodes of one more node, after those of some ranges.
  pub node_added : (front : List SourceRange) (nodes : List Node) (i : ℕ) (node : Node)
      (old mid new : BTreeSet ℕ) → i < length nodes → node ≡ get_or nodes i node
      → AreAdded text (front ++ ranges_in (take i nodes)) old mid
      → AreAdded text (map range_of (nodes_in node)) mid new
      → AreAdded text (front ++ ranges_in (take (i + 1) nodes)) old new
  node_added front nodes i node old mid new within is so_far more =
      subst (λ ranges. AreAdded text ranges old new)
      (append_assoc front (ranges_in (take i nodes)) (map range_of (nodes_in node))
      ∙ ap (λ ranges. front ++ ranges) (sym (ranges_more nodes i node within is)))
      (more_added (front ++ ranges_in (take i nodes)) (map range_of (nodes_in node)) old mid new so_far more)

  -- All nodes are asked.
  pub all_added : (body : List Node) (old new : BTreeSet ℕ) → ((at : ℕ) → is_among old at ≡ false)
      → AreAdded text (ranges_in body) old new → table_of (length text + 1) new ≡ value_ends text body
  unfolding value_ends
  all_added body old new none added =
      let offsets = length text + 1 in
      let is_end : ℕ → Bool = λ at. list_any (ends_value text at) (ranges_in body) in
      let size : length (table_of offsets new) ≡ length (map is_end (range_with_len 0 offsets)) =
      length-map-range_with_len (is_among new) 0 offsets
      ∙ sym (length-map-range_with_len is_end 0 offsets) in
      ext_get_or false (table_of offsets new) (map is_end (range_with_len 0 offsets)) size (λ k below.
      let within : k < offsets =
      omega (arith, below, length-map-range_with_len (is_among new) 0 offsets) in
      get_or-map-range_with_len (is_among new) 0 offsets k k false within (omega arith)
      ∙ added k
      ∙ ap (λ t. t || is_end k) (none k)
      ∙ sym (get_or-map-range_with_len is_end 0 offsets k k false within (omega arith)))
