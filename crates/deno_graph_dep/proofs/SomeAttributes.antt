-- Each clause and each argument has attributes.
use Rattle.std.proofs.Common.{◌≡◌, ℕ, zero, suc, ◌+◌, ◌<◌, ◌≤◌, Bool, true, false, not, ◌&&◌, List, [], ◌∷◌}
use Rattle.std.proofs.Common.{◌++◌, length, get_or, codes, Option, Some, None, ◌⊎◌, inl, inr, ⊎_elim, ◌↔◌}
use Rattle.std.proofs.Common.{refl, sym, ap, subst, ◌∙◌, arith, append_assoc, MatchBool}
use Rattle.std.specs.List.{slice_get}
use Rattle.std.specs.Str.{bytes_eq}
use Rattle.std.proofs.lemmas.Bool.{false≢true}
use Rattle.std.proofs.lemmas.List.{append-nil}
use Rattle.std.proofs.lemmas.Option.{none-some, same_Some, slice_get_within, get_or_from_slice_get}
use Rattle.std.proofs.lemmas.Slice.Eq.{bytes_eq-Decides}
use Rattle.deno_graph_source.specs.Node.{kind_of, children_of, is_object}
use Rattle.deno_graph_source.specs.declared.tree.node.Arg.{Arg}
use Rattle.deno_graph_source.specs.declared.tree.node.Node.{Node}
use Rattle.deno_graph_base.specs.TextMap.{insert_entry}
use Rattle.deno_graph_info.specs.declared.analysis.import_attributes.ImportAttribute.{ImportAttribute}
use Rattle.deno_graph_info.specs.declared.analysis.import_attributes.ImportAttributes.{ImportAttributes}
use Rattle.deno_graph_info.specs.declared.analysis.import_attributes.ImportAttributes.TheVariants as attributes
use Rattle.deno_graph_dep.specs.Attributes.{static_key, has_static_keys, declared, in_object, Entries, Giving}
use Rattle.deno_graph_dep.specs.Attributes.{HoldsLast, KnowsLast, AreDeclarationAttributes}
use Rattle.deno_graph_dep.specs.Attributes.{AreObjectAttributes, AreClauseAttributes, AreCallAttributes}
use Rattle.deno_graph_dep.specs.internal.AttributeSteps.{known_object}
use Rattle.deno_graph_dep.specs.DescriptorOf.{AreTypeAttributes}
use Rattle.deno_graph_dep.proofs.Inserted.{Puts-inserted}
use Rattle.deno_graph_dep.proofs.LastClause.{IsClauseAfter, ClausesBelow, ClausesBelow-skip}
use Rattle.deno_graph_dep.proofs.LastClause.{ClausesBelow-clause, AreClauseAttributes-unknown}
use Rattle.deno_graph_dep.proofs.LastClause.{AreClauseAttributes-none, AreClauseAttributes-last}
use Rattle.deno_graph_dep.proofs.LastGiven.{HoldsLast-nil, HoldsLast-skip, HoldsLast-put}

-- The entries that properties give last

module _ (gives : Giving) where
  one_more : (xs : List Node) (y : Node) (entries : Entries) → HoldsLast gives xs entries
      → (new : Entries) × HoldsLast gives (xs ++ y ∷ []) new
  one_more xs y entries held = by (gives y) refl
    where
      by : (o : Option (List ℕ × ImportAttribute)) → gives y ≡ o
          → (new : Entries) × HoldsLast gives (xs ++ y ∷ []) new
      by None is = (entries, HoldsLast-skip gives xs y entries is held)
      by (Some given) is = (
        insert_entry entries given.0 given.1,
        HoldsLast-put gives xs y entries (insert_entry entries given.0 given.1) given.0 given.1 is
            (Puts-inserted entries given.0 given.1 held.ascending) held,
      )

  all_more : (rest done : List Node) (entries : Entries) → HoldsLast gives done entries
      → (new : Entries) × HoldsLast gives (done ++ rest) new
  all_more [] done entries held =
      (entries, subst (λ xs. HoldsLast gives xs entries) (sym (append-nil done)) held)
  all_more (y ∷ rest) done entries held =
      let next = one_more done y entries held in
      let all = all_more rest (done ++ y ∷ []) next.0 next.1 in
      (all.0, subst (λ xs. HoldsLast gives xs all.0) (append_assoc done (y ∷ []) rest) all.1)

  some_held : (xs : List Node) → (entries : Entries) × HoldsLast gives xs entries
  some_held xs = all_more xs [] [] (HoldsLast-nil gives)

-- The attributes of a declaration, an object and an import type

pub some_declared : (clause : Option Node)
    → (result : ImportAttributes) × AreDeclarationAttributes clause result
some_declared None = (attributes.None, refl)
some_declared (Some clause) =
    let held = some_held declared (children_of clause) in (attributes.Known held.0, held.1)

some_object : (object : Node) → (result : ImportAttributes) × AreObjectAttributes object result
some_object object = by (has_static_keys object)
  where
    by : (b : Bool) → (result : ImportAttributes)
        × MatchBool b (KnowsLast in_object (children_of object) result) (result ≡ attributes.Unknown)
    by true = let held = some_held in_object (children_of object) in (attributes.Known held.0, held.1)
    by false = (attributes.Unknown, refl)

pub some_type : (clause : Option Node) → (result : ImportAttributes) × AreTypeAttributes clause result
some_type None = (attributes.None, refl)
some_type (Some object) = some_object object

-- The attributes of a call

-- a key equals another or not
abbrev is_key : Option (List ℕ) → List ℕ → Bool
is_key None name = false
is_key (Some key) name = bytes_eq key name

tested : (o : Option (List ℕ)) (name : List ℕ) → (is_key o name ≡ true) ↔ (o ≡ Some name)
tested None name = ((λ e. absurd (false≢true e)), (λ e. absurd (none-some name e)))
tested (Some key) name = (
  (λ e. ap Some ((bytes_eq-Decides key name).0 e)),
  (λ e. (bytes_eq-Decides key name).1 (same_Some key name e)),
)

decide_clause : (y : Node) (after_with : Bool) → IsClauseAfter y after_with ⊎ (IsClauseAfter y after_with → ⊥)
decide_clause y after_with =
    by (is_key (static_key y) (codes "with"))
    (is_key (static_key y) (codes "assert")) after_with refl refl refl
  where
    no_with : is_key (static_key y) (codes "with") ≡ false → static_key y ≡ Some (codes "with") → ⊥
    no_with e k = false≢true (sym e ∙ (tested (static_key y) (codes "with")).1 k)

    by : (a b c : Bool) → is_key (static_key y) (codes "with") ≡ a
        → is_key (static_key y) (codes "assert") ≡ b → after_with ≡ c
        → IsClauseAfter y after_with ⊎ (IsClauseAfter y after_with → ⊥)
    by true b c e f g = inl (inl ((tested (static_key y) (codes "with")).0 e))
    by false true false e f g = inl (inr ((tested (static_key y) (codes "assert")).0 f, g))
    by false true true e f g =
        inr (λ clause. ⊎_elim (no_with e) (λ k. false≢true (sym k.1 ∙ g)) clause)
    by false false c e f g =
        inr (λ clause. ⊎_elim (no_with e)
        (λ k. false≢true (sym f ∙ (tested (static_key y) (codes "assert")).1 k.0)) clause)

past_end : (xs : List Node) (i : ℕ) → slice_get xs i ≡ None → length xs ≤ i
past_end [] i is = omega arith
past_end (x ∷ xs) zero is = absurd (none-some x (sym is))
past_end (x ∷ xs) (suc i) is = let h = past_end xs i is in omega arith

module _ (xs : List Node) where
  abbrev Given : Type 0
  Given = (result : ImportAttributes) × AreClauseAttributes xs result

  at_end : (i : ℕ) (after_with : Bool) (last : Option Node) → length xs ≤ i
      → ClausesBelow xs i after_with last → Given
  at_end i after_with None end all =
      (attributes.None, AreClauseAttributes-none xs i after_with None end refl all)
  at_end i after_with (Some object) end all =
      let given = some_object object in
      (given.0, AreClauseAttributes-last xs i after_with (Some object) object given.0 end refl all given.1)

  step : (i : ℕ) (y : Node) → slice_get xs i ≡ Some y → (after_with : Bool) (last : Option Node)
      → ClausesBelow xs i after_with last
      → ((now : Bool) (found : Option Node) → ClausesBelow xs (i + 1) now found → Given) → Given
  step i y is after_with last so_far next =
      by_clause (decide_clause y after_with) (known_object y) refl
    where
      within : i < length xs
      within = slice_get_within xs i y is

      at : y ≡ get_or xs i y
      at = sym (get_or_from_slice_get xs i y y is)

      by_clause : IsClauseAfter y after_with ⊎ (IsClauseAfter y after_with → ⊥) → (o : Option Node)
          → known_object y ≡ o → Given
      by_clause (inr none) o known =
          next _ last (ClausesBelow-skip xs i y within at after_with last so_far
          (is_key (static_key y) (codes "with")) (tested (static_key y) (codes "with")) none)
      by_clause (inl clause) None known = (
        attributes.Unknown,
        AreClauseAttributes-unknown xs i y within at after_with last so_far clause
            known,
      )
      by_clause (inl clause) (Some object) known =
          next _ (Some object) (ClausesBelow-clause xs i y within at after_with last so_far
          (is_key (static_key y) (codes "with")) (tested (static_key y) (codes "with")) object clause known)

  go : (left i : ℕ) (after_with : Bool) (last : Option Node) → length xs ≤ i + left
      → ClausesBelow xs i after_with last → Given
  go zero i after_with last end so_far = at_end i after_with last (omega (arith, end)) so_far
  go (suc left) i after_with last end so_far =
      by (slice_get xs i) refl (λ now found more. go left (i + 1) now found (omega (arith, end)) more)
    where
      by : (o : Option Node) → slice_get xs i ≡ o
          → ((now : Bool) (found : Option Node) → ClausesBelow xs (i + 1) now found → Given) → Given
      by None is next = at_end i after_with last (past_end xs i is) so_far
      by (Some y) is next = step i y is after_with last so_far next

  some_looked_at : Given
  some_looked_at = go (length xs) 0 false None (omega arith) (record {
    with_below = λ e. absurd (false≢true e);
    no_with = λ e index below. absurd (omega (arith, below));
    known = λ index below looked. absurd (omega (arith, below));
    last_is = λ index below looked. omega (arith, below);
  })

pub some_call : (second : Option (Arg × Node)) → (result : ImportAttributes) × AreCallAttributes second result
some_call None = (attributes.None, refl)
some_call (Some second) =
    by (not second.0.spread && is_object (kind_of second.1) && has_static_keys second.1)
  where
    by : (b : Bool) → (result : ImportAttributes)
        × MatchBool b (AreClauseAttributes (children_of second.1) result) (result ≡ attributes.Unknown)
    by true = some_looked_at (children_of second.1)
    by false = (attributes.Unknown, refl)
