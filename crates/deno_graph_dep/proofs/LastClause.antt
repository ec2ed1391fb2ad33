-- The clauses of a call's second argument, found one property after another.
use Rattle.std.proofs.Common.{◌≡◌, ◌≢◌, ℕ, ◌+◌, ◌<◌, ◌≤◌, Bool, true, false, ◌&&◌, ◌||◌, cond, List, length}
use Rattle.std.proofs.Common.{get_or, codes, Option, Some, None, option_and_then, ◌⊎◌, inl, inr, ⊎_elim, ◌↔◌}
use Rattle.std.proofs.Common.{refl, sym, ap, subst, ◌∙◌, arith, MatchBool}
use Rattle.std.specs.List.{slice_get}
use Rattle.std.proofs.lemmas.Bool.{cases_lt, false_from_ne_true, or_cases, or_parts, and_parts, both_ways}
use Rattle.std.proofs.lemmas.Option.{none-some, cond_some, slice_get_read, slice_get_past}
use Rattle.deno_graph_source.specs.declared.tree.node.Node.{Node}
use Rattle.deno_graph_source.specs.Node.{kind_of, is_object}
use Rattle.deno_graph_info.specs.declared.analysis.import_attributes.ImportAttributes.{ImportAttributes}
use Rattle.deno_graph_info.specs.declared.analysis.import_attributes.ImportAttributes.TheVariants as attributes
use Rattle.deno_graph_dep.specs.Attributes.{static_key, value_node, has_static_keys, AreObjectAttributes}
use Rattle.deno_graph_dep.specs.Attributes.{AreValueAttributes, AreAttributesAt, key_at, IsAttributeClause}
use Rattle.deno_graph_dep.specs.Attributes.{AreClauseAttributes}
use Rattle.deno_graph_dep.specs.internal.AttributeSteps.{known_object}

-- the attributes of a value that is a known object are those of the object
known_value : (v : Option Node) (object : Node)
    → option_and_then (λ (value : Node). cond (is_object (kind_of value) && has_static_keys value)
    (Some value) None) v ≡ Some object
    → (v ≡ Some object) × (is_object (kind_of object) ≡ true) × (has_static_keys object ≡ true)
known_value None object e = absurd (none-some object e)
known_value (Some value) object e =
    let found = cond_some (is_object (kind_of value) && has_static_keys value) value object e in
    let both = and_parts (is_object (kind_of value)) (has_static_keys value) found.0 in (
      ap Some found.1,
      ap (λ node. is_object (kind_of node)) (sym found.1) ∙ both.0,
      ap has_static_keys (sym found.1) ∙ both.1,
    )

-- a value that is no known object is unknown
unknown_value : (v : Option Node)
    → option_and_then (λ (value : Node). cond (is_object (kind_of value) && has_static_keys value)
    (Some value) None) v ≡ None
    → AreValueAttributes v attributes.Unknown
unknown_value None e = refl
unknown_value (Some value) e = either (is_object (kind_of value)) (has_static_keys value) e
  where
    either : (a b : Bool) → cond (a && b) (Some value) None ≡ None
        → MatchBool a (MatchBool b ⊥ (attributes.Unknown ≡ attributes.Unknown))
        (attributes.Unknown ≡ attributes.Unknown)
    either true true e = absurd (none-some value (sym e))
    either true false e = refl
    either false b e = refl

known_is_not_unknown : (object : Node) → is_object (kind_of object) ≡ true → has_static_keys object ≡ true
    → AreValueAttributes (Some object) attributes.Unknown → ⊥
known_is_not_unknown object is keys h = rw (is, keys) at h

known_gives : (object : Node) (result : ImportAttributes) → is_object (kind_of object) ≡ true
    → AreObjectAttributes object result
    → AreValueAttributes (Some object) result
known_gives object result is h = rw is h

-- the property with this index
module _ (xs : List Node) (i : ℕ) (y : Node) (within : i < length xs) (at : y ≡ get_or xs i y) where
  here : slice_get xs i ≡ Some y
  here = slice_get_read xs (length xs) i y refl within at

  key_here : key_at xs i ≡ static_key y
  key_here = ap (option_and_then static_key) here

  value_here : option_and_then value_node (slice_get xs i) ≡ value_node y
  value_here = ap (option_and_then value_node) here

-- no property past the end is a clause
past_the_end : (xs : List Node) (index : ℕ) → length xs ≤ index → IsAttributeClause xs index → ⊥
past_the_end xs index past clause =
    let none : key_at xs index ≡ None = ap (option_and_then static_key) (slice_get_past xs index past) in
    ⊎_elim (λ k. none-some (codes "with") (sym none ∙ k))
    (λ k. none-some (codes "assert") (sym none ∙ k.0)) clause

-- the last clause below a bound, and the object that is its value
pub record LastBelow (xs : List Node) (bound : ℕ) (object : Node) : Type 0 where
  pub index : ℕ
  pub below : index < bound
  pub is_clause : IsAttributeClause xs index
  pub none_between : (greater : ℕ) → index < greater → greater < bound → IsAttributeClause xs greater → ⊥
  pub value : option_and_then value_node (slice_get xs index) ≡ Some object
  pub is : is_object (kind_of object) ≡ true
  pub keys : has_static_keys object ≡ true

abbrev pub IsLastBelow : List Node → ℕ → Option Node → Type 0
IsLastBelow xs bound None = (index : ℕ) → index < bound → IsAttributeClause xs index → ⊥
IsLastBelow xs bound (Some object) = LastBelow xs bound object

-- the indices below a bound: whether one has the key `with`, that the value of no clause is unknown,
-- and the last clause
pub record ClausesBelow (xs : List Node) (bound : ℕ) (after_with : Bool) (last : Option Node) : Type 0 where
  pub with_below : after_with ≡ true → (index : ℕ) × (index < bound) × (key_at xs index ≡ Some (codes "with"))
  pub no_with : after_with ≡ false → (index : ℕ) → index < bound → key_at xs index ≢ Some (codes "with")
  pub known : (index : ℕ) → index < bound → IsAttributeClause xs index
      → AreAttributesAt xs index attributes.Unknown → ⊥
  pub last_is : IsLastBelow xs bound last

-- whether a property is a clause, by whether a `with` came before
abbrev pub IsClauseAfter : Node → Bool → Type 0
IsClauseAfter y after_with = (static_key y ≡ Some (codes "with"))
    ⊎ ((static_key y ≡ Some (codes "assert")) × (after_with ≡ false))

-- a property of each index below a bound and of the bound is one of each index below the next bound
below_next : (P : ℕ → Type 0) (i : ℕ) → ((index : ℕ) → index < i → P index) → P i → (index : ℕ)
    → index < i + 1 → P index
below_next P i before here index below =
    ⊎_elim (λ lt. before index lt) (λ ge. let same : i ≡ index = omega arith in subst P same here)
    (cases_lt index i)

-- the next property
module _ (xs : List Node) (i : ℕ) (y : Node) (within : i < length xs) (at : y ≡ get_or xs i y)
    (after_with : Bool) (last : Option Node) (so_far : ClausesBelow xs i after_with last) where
  is_clause : IsClauseAfter y after_with → IsAttributeClause xs i
  is_clause clause =
      ⊎_elim (λ k. inl (key_here xs i y within at ∙ k))
      (λ k. inr (key_here xs i y within at ∙ k.0, so_far.no_with k.1)) clause

  clause_after : IsAttributeClause xs i → IsClauseAfter y after_with
  clause_after clause =
      ⊎_elim (λ k. inl (sym (key_here xs i y within at) ∙ k))
      (λ k. inr (
        sym (key_here xs i y within at) ∙ k.0,
        false_from_ne_true after_with
            (λ e. let before = so_far.with_below e in k.1 before.0 before.1 before.2),
      )) clause

  module _ (has_with : Bool) (tested : (has_with ≡ true) ↔ (static_key y ≡ Some (codes "with"))) where
    with_next : (after_with || has_with) ≡ true
        → (index : ℕ) × (index < i + 1) × (key_at xs index ≡ Some (codes "with"))
    with_next e =
        ⊎_elim (λ before. let found = so_far.with_below before in
        (found.0, (let below = found.1 in omega arith), found.2))
        (λ now. (i, omega arith, key_here xs i y within at ∙ tested.0 now)) (or_cases after_with has_with e)

    no_with_next : (after_with || has_with) ≡ false → (index : ℕ) → index < i + 1
        → key_at xs index ≢ Some (codes "with")
    no_with_next e =
        let both = or_parts after_with has_with e in
        below_next (λ index. key_at xs index ≢ Some (codes "with")) i (so_far.no_with both.0)
        (λ k. both_ways has_with both.1 (tested.1 (sym (key_here xs i y within at) ∙ k)))

    -- a property that is no clause changes nothing
    pub ClausesBelow-skip : (IsClauseAfter y after_with → ⊥)
        → ClausesBelow xs (i + 1) (after_with || has_with) last
    ClausesBelow-skip no_clause = record {
      with_below = with_next;
      no_with = no_with_next;
      known = below_next (λ index. IsAttributeClause xs index → AreAttributesAt xs index attributes.Unknown
          → ⊥) i so_far.known
          (λ clause. absurd (no_clause (clause_after clause)));
      last_is = same_last last so_far.last_is;
    }
      where
        same_last : (o : Option Node) → IsLastBelow xs i o → IsLastBelow xs (i + 1) o
        same_last None none = below_next (λ index. IsAttributeClause xs index → ⊥) i none
            (λ clause. no_clause (clause_after clause))
        same_last (Some object) found = record {
          index = found.index;
          below = let below = found.below in omega arith;
          is_clause = found.is_clause;
          none_between = λ greater after below.
              below_next (λ index. found.index < index → IsAttributeClause xs index → ⊥) i
              (λ index below after. found.none_between index after below)
              (λ after clause. no_clause (clause_after clause)) greater below after;
          value = found.value;
          is = found.is;
          keys = found.keys;
        }

    -- a clause with a known object becomes the last clause
    pub ClausesBelow-clause : (object : Node) → IsClauseAfter y after_with → known_object y ≡ Some object
        → ClausesBelow xs (i + 1) (after_with || has_with) (Some object)
    ClausesBelow-clause object clause is =
        let found = known_value (value_node y) object is in
        let value : option_and_then value_node (slice_get xs i) ≡ Some object = value_here xs i y within at
        ∙ found.0 in
        record {
          with_below = with_next;
          no_with = no_with_next;
          known = below_next (λ index. IsAttributeClause xs index
              → AreAttributesAt xs index attributes.Unknown → ⊥) i so_far.known
              (λ clause unknown. known_is_not_unknown object found.1 found.2
              (subst (λ v. AreValueAttributes v attributes.Unknown) value unknown));
          last_is = record {
            index = i;
            below = omega arith;
            is_clause = is_clause clause;
            none_between = λ greater after below clause. omega arith;
            value = value;
            is = found.1;
            keys = found.2;
          };
        }

  -- a clause whose value is no known object makes the attributes unknown
  pub AreClauseAttributes-unknown : IsClauseAfter y after_with → known_object y ≡ None
      → AreClauseAttributes xs attributes.Unknown
  AreClauseAttributes-unknown clause is = (
    i,
    is_clause clause,
    subst (λ v. AreValueAttributes v attributes.Unknown) (sym (value_here xs i y within at))
        (unknown_value (value_node y) is),
  )

-- no property is a clause
pub AreClauseAttributes-none : (xs : List Node) (bound : ℕ) (after_with : Bool) (last : Option Node)
    → length xs ≤ bound → last ≡ None
    → ClausesBelow xs bound after_with last → AreClauseAttributes xs attributes.None
AreClauseAttributes-none xs bound after_with last end none all index clause =
    ⊎_elim (λ below. let last_is = subst (IsLastBelow xs bound) none all.last_is in
    last_is index below clause)
    (λ past. past_the_end xs index (omega arith) clause) (cases_lt index bound)

-- the attributes are those of the last clause's object
pub AreClauseAttributes-last : (xs : List Node) (bound : ℕ) (after_with : Bool) (last : Option Node)
    (object : Node)
    (result : ImportAttributes)
    → length xs ≤ bound → last ≡ Some object → ClausesBelow xs bound after_with last
    → AreObjectAttributes object result → AreClauseAttributes xs result
AreClauseAttributes-last xs bound after_with last object result end is all given =
    by_result result (subst (IsLastBelow xs bound) is all.last_is) given
  where
    by_result : (r : ImportAttributes) → LastBelow xs bound object → AreObjectAttributes object r
        → AreClauseAttributes xs r
    by_result attributes.None found g = let keys = found.keys in absurd (rw keys at g)
    by_result attributes.Unknown found g = let keys = found.keys in absurd (rw keys at g)
    by_result (attributes.Known entries) found g = record {
      known = λ index clause.
          ⊎_elim (λ below. all.known index below clause)
          (λ past. absurd (past_the_end xs index (omega arith) clause)) (cases_lt index bound);
      greatest = found.index;
      is_clause = found.is_clause;
      none_greater = λ greater after clause.
          ⊎_elim (λ below. found.none_between greater after below clause)
          (λ past. past_the_end xs greater (omega arith) clause) (cases_lt greater bound);
      given = subst (λ v. AreValueAttributes v (attributes.Known entries)) (sym found.value)
          (known_gives object (attributes.Known entries) found.is g);
    }
