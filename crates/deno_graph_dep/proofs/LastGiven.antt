-- The entries that the properties of an object literal give last, when one more property is read.
use Rattle.std.proofs.Common.{◌≡◌, ◌≢◌, ℕ, zero, suc, ◌+◌, ◌<◌, true, false, cond, List, [], ◌∷◌, ◌++◌}
use Rattle.std.proofs.Common.{length, take, get_or, Some, None, ◌⊎◌, inl, inr, ⊎_elim, refl, sym, ap, subst}
use Rattle.std.proofs.Common.{◌∙◌, arith}
use Rattle.std.specs.List.{slice_get}
use Rattle.std.specs.List.Sorted.{IsStrictlySortedBy}
use Rattle.std.specs.Str.{bytes_eq}
use Rattle.std.proofs.lemmas.Bool.{cases_Bool}
use Rattle.std.proofs.lemmas.List.{length_push, take_more}
use Rattle.std.proofs.lemmas.Option.{none-some, same_Some, slice_get_within, some_pair_parts}
use Rattle.std.proofs.lemmas.Slice.Eq.{bytes_eq-Decides}
use Rattle.deno_graph_source.specs.declared.tree.node.Node.{Node}
use Rattle.deno_graph_base.specs.TextMap.{value_at}
use Rattle.deno_graph_info.specs.declared.analysis.import_attributes.ImportAttribute.{ImportAttribute}
use Rattle.deno_graph_dep.specs.Attributes.{static_key, static_value, Entries, Giving, attribute_of}
use Rattle.deno_graph_dep.specs.Attributes.{in_object, GivesLast, HoldsLast}
use Rattle.deno_graph_dep.specs.internal.AttributeSteps.{Puts}

-- a member of a list with one more at its end is a member of the list, or the last
push_before : {A : Type 0} (xs : List A) (y x : A) (n : ℕ) → slice_get xs n ≡ Some x
    → slice_get (xs ++ y ∷ []) n ≡ Some x
push_before [] y x n e = absurd (none-some x e)
push_before (z ∷ xs) y x zero e = e
push_before (z ∷ xs) y x (suc n) e = push_before xs y x n e

push_end : {A : Type 0} (xs : List A) (y : A) → slice_get (xs ++ y ∷ []) (length xs) ≡ Some y
push_end [] y = refl
push_end (z ∷ xs) y = push_end xs y

push_cases : {A : Type 0} (xs : List A) (y x : A) (n : ℕ) → slice_get (xs ++ y ∷ []) n ≡ Some x
    → (slice_get xs n ≡ Some x) ⊎ ((n ≡ length xs) × (y ≡ x))
push_cases [] y x zero e = inr (refl, same_Some y x e)
push_cases [] y x (suc n) e = absurd (none-some x e)
push_cases (z ∷ xs) y x zero e = inl e
push_cases (z ∷ xs) y x (suc n) e =
    ⊎_elim (λ h. inl h) (λ h. inr (ap (λ k. suc k) h.0, h.1)) (push_cases xs y x n e)

-- a property that gives no value for a key leaves the last value of the key
GivesLast-push : (gives : Giving) (xs : List Node) (y : Node) (name : List ℕ) (value : ImportAttribute)
    → ((other : ImportAttribute) → gives y ≢ Some (name, other)) → GivesLast gives xs name value
    → GivesLast gives (xs ++ y ∷ []) name value
GivesLast-push gives xs y name value none given = record {
  index = given.index;
  property = given.property;
  there = push_before xs y given.property given.index given.there;
  given = given.given;
  last = λ greater other v after at g.
      ⊎_elim (λ before. given.last greater other v after before g)
      (λ end. none v (ap gives end.1 ∙ g)) (push_cases xs y other greater at);
}

GivesLast-pop : (gives : Giving) (xs : List Node) (y : Node) (name : List ℕ) (value : ImportAttribute)
    → ((other : ImportAttribute) → gives y ≢ Some (name, other)) → GivesLast gives (xs ++ y ∷ []) name value
    → GivesLast gives xs name value
GivesLast-pop gives xs y name value none given =
    ⊎_elim (λ before. record {
      index = given.index;
      property = given.property;
      there = before;
      given = given.given;
      last = λ greater other v after at g. given.last greater other v after
          (push_before xs y other greater at) g;
    })
    (λ end. absurd (none value (ap gives end.1 ∙ given.given)))
    (push_cases xs y given.property given.index given.there)

-- a property that gives a value for a key gives it last
GivesLast-end : (gives : Giving) (xs : List Node) (y : Node) (name : List ℕ) (value : ImportAttribute)
    → gives y ≡ Some (name, value) → GivesLast gives (xs ++ y ∷ []) name value
GivesLast-end gives xs y name value is = record {
  index = length xs;
  property = y;
  there = push_end xs y;
  given = is;
  last = λ greater other v after at g.
      let within : greater < length (xs ++ y ∷ []) = slice_get_within (xs ++ y ∷ []) greater other at in
      omega (arith, length_push xs y);
}

GivesLast-same : (gives : Giving) (xs : List Node) (y : Node) (name : List ℕ) (value last : ImportAttribute)
    → gives y ≡ Some (name, last) → GivesLast gives (xs ++ y ∷ []) name value → last ≡ value
GivesLast-same gives xs y name value last is given =
    ⊎_elim (λ before.
    let within : given.index < length xs = slice_get_within xs given.index given.property before in
    absurd (given.last (length xs) y last within (push_end xs y) is))
    (λ end. (some_pair_parts name name last value (sym is ∙ ap gives end.1 ∙ given.given)).1)
    (push_cases xs y given.property given.index given.there)

-- no properties give no entries
pub HoldsLast-nil : (gives : Giving) → HoldsLast gives [] []
unfolding IsStrictlySortedBy
HoldsLast-nil gives = record {
  ascending = tt;
  values = λ name value. (
    λ e. absurd (none-some value e),
    λ given. absurd (none-some given.property given.there),
  );
}

-- a property that gives nothing leaves the entries
pub HoldsLast-skip : (gives : Giving) (xs : List Node) (y : Node) (entries : Entries) → gives y ≡ None
    → HoldsLast gives xs entries → HoldsLast gives (xs ++ y ∷ []) entries
HoldsLast-skip gives xs y entries is held = record {
  ascending = held.ascending;
  values = λ name value.
      let none : (other : ImportAttribute) → gives y ≢ Some (name, other) =
      λ other g. none-some (name, other) (sym is ∙ g) in (
        λ e. GivesLast-push gives xs y name value none ((held.values name value).0 e),
        λ given. (held.values name value).1 (GivesLast-pop gives xs y name value none given),
      );
}

-- a property that gives a value changes the entry of its key
pub HoldsLast-put : (gives : Giving) (xs : List Node) (y : Node) (old new : Entries) (name : List ℕ)
    (value : ImportAttribute)
    → gives y ≡ Some (name, value) → Puts old new name value → HoldsLast gives xs old
    → HoldsLast gives (xs ++ y ∷ []) new
HoldsLast-put gives xs y old new name value is puts held = record {
  ascending = puts.ascending;
  values = λ other v. ⊎_elim (here other v) (elsewhere other v) (cases_Bool (bytes_eq name other));
}
  where
    here : (other : List ℕ) (v : ImportAttribute) → bytes_eq name other ≡ true
        → (value_at new other ≡ Some v → GivesLast gives (xs ++ y ∷ []) other v)
        × (GivesLast gives (xs ++ y ∷ []) other v → value_at new other ≡ Some v)
    here other v e =
        let same : name ≡ other = (bytes_eq-Decides name other).0 e in
        let gives_other : gives y ≡ Some (other, value) = is ∙ ap (λ k. Some (k, value)) same in
        let found : value_at new other ≡ Some value = puts.values other
        ∙ ap (λ b. cond b (Some value) (value_at old other)) e in (
          λ at. GivesLast-end gives xs y other v
              (gives_other ∙ ap (λ w. Some (other, w)) (same_Some value v (sym found ∙ at))),
          λ given. found ∙ ap Some (GivesLast-same gives xs y other v value gives_other given),
        )

    elsewhere : (other : List ℕ) (v : ImportAttribute) → bytes_eq name other ≡ false
        → (value_at new other ≡ Some v → GivesLast gives (xs ++ y ∷ []) other v)
        × (GivesLast gives (xs ++ y ∷ []) other v → value_at new other ≡ Some v)
    elsewhere other v e =
        let none : (w : ImportAttribute) → gives y ≢ Some (other, w) = λ w g.
        let same : name ≡ other = (some_pair_parts name other value w (sym is ∙ g)).0 in
        let yes : bytes_eq name other ≡ true = (bytes_eq-Decides name other).1 same in
        cc in
        let found : value_at new other ≡ value_at old other = puts.values other
        ∙ ap (λ b. cond b (Some value) (value_at old other)) e in (
          λ at. GivesLast-push gives xs y other v none ((held.values other v).0 (sym found ∙ at)),
          λ given. found ∙ (held.values other v).1 (GivesLast-pop gives xs y other v none given),
        )

-- the two cases at a step of a loop over the properties
pub HoldsLast-skip_more : (gives : Giving) (xs : List Node) (i : ℕ) (y : Node) (entries : Entries)
    → i < length xs → y ≡ get_or xs i y
    → gives y ≡ None → HoldsLast gives (take i xs) entries → HoldsLast gives (take (i + 1) xs) entries
HoldsLast-skip_more gives xs i y entries within at is held =
    let more : take (i + 1) xs ≡ take i xs ++ y ∷ [] = take_more xs i y within
    ∙ ap (λ z. take i xs ++ z ∷ []) (sym at) in
    subst (λ l. HoldsLast gives l entries) (sym more) (HoldsLast-skip gives (take i xs) y entries is held)

pub HoldsLast-put_more : (gives : Giving) (xs : List Node) (i : ℕ) (y : Node) (old new : Entries)
    (name : List ℕ) (value : ImportAttribute)
    → i < length xs → y ≡ get_or xs i y → gives y ≡ Some (name, value) → Puts old new name value
    → HoldsLast gives (take i xs) old → HoldsLast gives (take (i + 1) xs) new
HoldsLast-put_more gives xs i y old new name value within at is puts held =
    let more : take (i + 1) xs ≡ take i xs ++ y ∷ [] = take_more xs i y within
    ∙ ap (λ z. take i xs ++ z ∷ []) (sym at) in
    subst (λ l. HoldsLast gives l new) (sym more)
    (HoldsLast-put gives (take i xs) y old new name value is puts held)

-- the entry that a property gives, by its static key and value
pub in_object-key : (property : Node) (name : List ℕ) → static_key property ≡ Some name
    → in_object property ≡ Some (name, attribute_of (static_value property))
in_object-key property name k = rw k refl
