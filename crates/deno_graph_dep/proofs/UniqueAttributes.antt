-- The attributes of a node are unique.
use Rattle.std.proofs.Common.{◌≡◌, ℕ, Bool, true, false, not, ◌&&◌, cond, List, [], ◌∷◌, Option, Some, None}
use Rattle.std.proofs.Common.{option_and_then, ◌⊎◌, inl, inr, ⊎_elim, ◌↔◌, refl, sym, ap, subst, ◌∙◌, arith}
use Rattle.std.proofs.Common.{slice_get, MatchBool}
use Rattle.std.specs.Cmp.Lexicographic.{slice_cmp}
use Rattle.std.specs.List.{AllByRecursion}
use Rattle.std.specs.List.Sorted.{IsStrictlySortedBy}
use Rattle.std.specs.Map.{keys_of}
use Rattle.std.specs.Ordering.{nat_cmp, is_eq, ordering_reverse}
use Rattle.std.specs.Str.{bytes_eq}
use Rattle.std.specs.declared.cmp.Ordering.{Ordering}
use Rattle.std.specs.declared.cmp.Ordering.TheVariants.{Less, Equal, Greater}
use Rattle.std.proofs.lemmas.Bool.{cases_lt, cases_Bool}
use Rattle.std.proofs.lemmas.Cmp.{nat_list_cmp_total}
use Rattle.std.proofs.lemmas.Map.Text.{is_eq-slice_cmp}
use Rattle.std.proofs.lemmas.Option.{none-some, same_Some}
use Rattle.std.proofs.lemmas.Slice.Eq.{bytes_eq-Decides}
use Rattle.deno_graph_source.specs.Node.{kind_of, children_of, is_object}
use Rattle.deno_graph_source.specs.declared.tree.node.Arg.{Arg}
use Rattle.deno_graph_source.specs.declared.tree.node.Node.{Node}
use Rattle.deno_graph_base.specs.TextMap.{value_at, IsAscending}
use Rattle.deno_graph_info.specs.declared.analysis.import_attributes.ImportAttributes.{ImportAttributes}
use Rattle.deno_graph_info.specs.declared.analysis.import_attributes.ImportAttributes.TheVariants as attributes
use Rattle.deno_graph_dep.specs.Attributes.{value_node, has_static_keys, declared, in_object, Entries, Giving}
use Rattle.deno_graph_dep.specs.Attributes.{HoldsLast, KnowsLast, AreDeclarationAttributes}
use Rattle.deno_graph_dep.specs.Attributes.{AreObjectAttributes, AreValueAttributes, AreAttributesAt}
use Rattle.deno_graph_dep.specs.Attributes.{IsOfLastClause, AreClauseAttributes, AreCallAttributes}
use Rattle.deno_graph_dep.specs.DescriptorOf.{AreTypeAttributes}

-- at most one value has the property
abbrev pub IsUnique : {A : Type 0} → (A → Type 0) → Type 0
IsUnique {A} P = (a b : A) → P a → P b → a ≡ b

pub unique_equal : {A : Type 0} (x : A) → IsUnique (λ (a : A). a ≡ x)
unique_equal x a b is also = is ∙ sym also

pub unique_by : {A : Type 0} (test : Bool) (P Q : A → Type 0) → IsUnique P → IsUnique Q
    → IsUnique (λ a. MatchBool test (P a) (Q a))
unique_by true P Q p q = p
unique_by false P Q p q = q

-- Entries in the order of their keys

-- whether two texts are equal, by their order
eq_by_order : (key other : List ℕ) (o : Ordering) → slice_cmp nat_cmp key other ≡ o
    → bytes_eq key other ≡ is_eq o
eq_by_order key other o e = sym (is_eq-slice_cmp key other) ∙ ap is_eq e

eq_itself : (key : List ℕ) → bytes_eq key key ≡ true
eq_itself key = (bytes_eq-Decides key key).1 refl

found_first : {V : Type 0} (name : List ℕ) (value : V) (rest : List (List ℕ × V))
    → value_at ((name, value) ∷ rest) name ≡ Some value
found_first name value rest = ap (λ b. cond b (Some value) (value_at rest name)) (eq_itself name)

-- a key that is below all others has no value
not_below : {V : Type 0} (key : List ℕ) (es : List (List ℕ × V))
    → AllByRecursion (λ k. slice_cmp nat_cmp key k ≡ Less) (keys_of es)
    → value_at es key ≡ None
not_below key [] below = refl
not_below key (e ∷ es) below = rw (eq_by_order key e.0 Less below.0) (not_below key es below.1)

below_all : {V : Type 0} (key other : List ℕ) (es : List (List ℕ × V)) → slice_cmp nat_cmp key other ≡ Less
    → AllByRecursion (λ k. slice_cmp nat_cmp other k ≡ Less) (keys_of es)
    → AllByRecursion (λ k. slice_cmp nat_cmp key k ≡ Less) (keys_of es)
below_all key other [] less below = tt
below_all key other (e ∷ es) less below =
    (nat_list_cmp_total.trans key other e.0 less below.0, below_all key other es less below.1)

-- a first key that is below another's first key has a value in one list alone
no_first : {V : Type 0} (name other : List ℕ) (value there : V) (es fs : List (List ℕ × V))
    → slice_cmp nat_cmp name other ≡ Less
    → AllByRecursion (λ k. slice_cmp nat_cmp other k ≡ Less) (keys_of fs)
    → value_at ((name, value) ∷ es) name ≡ value_at ((other, there) ∷ fs) name → ⊥
no_first name other value there es fs less below same =
    let nothing : value_at ((other, there) ∷ fs) name ≡ None =
    ap (λ b. cond b (Some there) (value_at fs name)) (eq_by_order name other Less less)
    ∙ not_below name fs (below_all name other fs less below) in
    none-some value (sym nothing ∙ (sym same ∙ found_first name value es))

-- two lists with the same values and an equal first key have the same values after it
module _ {V : Type 0} (name other : List ℕ) (value there : V) (es fs : List (List ℕ × V)) (one : name ≡ other)
    (a : AllByRecursion (λ k. slice_cmp nat_cmp name k ≡ Less) (keys_of es))
    (b : AllByRecursion (λ k. slice_cmp nat_cmp other k ≡ Less) (keys_of fs))
    (same : (key : List ℕ) → value_at ((name, value) ∷ es) key ≡ value_at ((other, there) ∷ fs) key) where
  same_rest_by : (key : List ℕ) → (bytes_eq key name ≡ true) ⊎ (bytes_eq key name ≡ false)
      → value_at es key ≡ value_at fs key
  same_rest_by key (inl e) =
      let k : key ≡ name = (bytes_eq-Decides key name).0 e in
      (ap (value_at es) k ∙ not_below name es a) ∙ sym (ap (value_at fs) (k ∙ one) ∙ not_below other fs b)
  same_rest_by key (inr e) =
      let f : bytes_eq key other ≡ false = ap (bytes_eq key) (sym one) ∙ e in
      sym (ap (λ t. cond t (Some value) (value_at es key)) e)
      ∙ (same key ∙ ap (λ t. cond t (Some there) (value_at fs key)) f)

  same_rest : (key : List ℕ) → value_at es key ≡ value_at fs key
  same_rest key = same_rest_by key (cases_Bool (bytes_eq key name))

-- the first entries are equal, and so are the rest
module _ {V : Type 0} (name other : List ℕ) (value there : V) (es fs : List (List ℕ × V))
    (a : IsAscending ((name, value) ∷ es)) (b : IsAscending ((other, there) ∷ fs))
    (same : (key : List ℕ) → value_at ((name, value) ∷ es) key ≡ value_at ((other, there) ∷ fs) key)
    (rests : IsAscending es → IsAscending fs → ((key : List ℕ) → value_at es key ≡ value_at fs key)
    → es ≡ fs) where
  same_by_order : (o : Ordering) → slice_cmp nat_cmp name other ≡ o → (name, value) ∷ es ≡ (other, there) ∷ fs
  unfolding IsStrictlySortedBy
  same_by_order Less less = absurd (no_first name other value there es fs less b.0 (same name))
  same_by_order Greater greater =
      let less : slice_cmp nat_cmp other name ≡ Less = nat_list_cmp_total.antisymm other name
      ∙ ap ordering_reverse greater in
      absurd (no_first other name there value fs es less a.0 (sym (same other)))
  same_by_order Equal equal =
      let eq = eq_by_order name other Equal equal in
      let one : name ≡ other = (bytes_eq-Decides name other).0 eq in
      let at_name = ap (λ t. cond t (Some there) (value_at fs name)) eq in
      let values : value ≡ there =
      same_Some value there (sym (found_first name value es) ∙ (same name ∙ at_name)) in
      let others = rests a.1 b.1 (same_rest name other value there es fs one a.0 b.0 same) in
      ap (λ n. (n, value) ∷ es) one ∙ (ap (λ v. (other, v) ∷ es) values ∙ ap (λ r. (other, there) ∷ r) others)

-- two lists of entries with the same values are equal
pub ascending_unique : {V : Type 0} (es fs : List (List ℕ × V)) → IsAscending es → IsAscending fs
    → ((key : List ℕ) → value_at es key ≡ value_at fs key) → es ≡ fs
ascending_unique [] [] a b same = refl
ascending_unique [] ((name, value) ∷ fs) a b same =
    absurd (none-some value (same name ∙ found_first name value fs))
ascending_unique ((name, value) ∷ es) [] a b same =
    absurd (none-some value (sym (same name) ∙ found_first name value es))
ascending_unique ((name, value) ∷ es) ((other, there) ∷ fs) a b same =
    same_by_order name other value there es fs a b same (ascending_unique es fs)
    (slice_cmp nat_cmp name other) refl

same_option : {A : Type 0} (o p : Option A) → ((a : A) → (o ≡ Some a) ↔ (p ≡ Some a)) → o ≡ p
same_option None None h = refl
same_option None (Some y) h = (h y).1 refl
same_option (Some x) p h = sym ((h x).0 refl)

-- The attributes of declarations, objects and calls

HoldsLast-unique : (gives : Giving) (properties : List Node) (es fs : Entries) → HoldsLast gives properties es
    → HoldsLast gives properties fs → es ≡ fs
HoldsLast-unique gives properties es fs a b =
    ascending_unique es fs a.ascending b.ascending (λ key.
    same_option (value_at es key) (value_at fs key) (λ value. (
      λ e. (b.values key value).1 ((a.values key value).0 e),
      λ e. (a.values key value).1 ((b.values key value).0 e),
    )))

KnowsLast-unique : (gives : Giving) (properties : List Node) (r s : ImportAttributes)
    → KnowsLast gives properties r → KnowsLast gives properties s → r ≡ s
KnowsLast-unique gives properties (attributes.Known es) (attributes.Known fs) a b =
    ap attributes.Known (HoldsLast-unique gives properties es fs a b)
KnowsLast-unique gives properties (attributes.Known es) attributes.Unknown a b = absurd b
KnowsLast-unique gives properties (attributes.Known es) attributes.None a b = absurd b
KnowsLast-unique gives properties attributes.Unknown s a b = absurd a
KnowsLast-unique gives properties attributes.None s a b = absurd a

pub AreDeclarationAttributes-unique : (clause : Option Node) → IsUnique (AreDeclarationAttributes clause)
AreDeclarationAttributes-unique None = unique_equal attributes.None
AreDeclarationAttributes-unique (Some clause) = KnowsLast-unique declared (children_of clause)

AreObjectAttributes-unique : (object : Node) → IsUnique (AreObjectAttributes object)
AreObjectAttributes-unique object =
    unique_by (has_static_keys object) (KnowsLast in_object (children_of object))
    (λ r. r ≡ attributes.Unknown)
    (KnowsLast-unique in_object (children_of object)) (unique_equal attributes.Unknown)

pub AreTypeAttributes-unique : (clause : Option Node) → IsUnique (AreTypeAttributes clause)
AreTypeAttributes-unique None = unique_equal attributes.None
AreTypeAttributes-unique (Some object) = AreObjectAttributes-unique object

AreValueAttributes-unique : (value : Option Node) → IsUnique (AreValueAttributes value)
AreValueAttributes-unique None = unique_equal attributes.Unknown
AreValueAttributes-unique (Some value) =
    unique_by (is_object (kind_of value)) (AreObjectAttributes value) (λ r. r ≡ attributes.Unknown)
    (AreObjectAttributes-unique value) (unique_equal attributes.Unknown)

IsOfLastClause-unique : (properties : List Node) (r s : ImportAttributes) → IsOfLastClause properties r
    → IsOfLastClause properties s → r ≡ s
IsOfLastClause-unique properties r s a b =
    ⊎_elim (λ less. absurd (a.none_greater b.greatest less b.is_clause))
    (λ not_less. ⊎_elim (λ less. absurd (b.none_greater a.greatest less a.is_clause))
    (λ also. let same : b.greatest ≡ a.greatest = omega arith in
    AreValueAttributes-unique (option_and_then value_node (slice_get properties a.greatest)) r s a.given
    (subst (λ index. AreAttributesAt properties index s) same b.given))
    (cases_lt b.greatest a.greatest)) (cases_lt a.greatest b.greatest)

AreClauseAttributes-unique : (properties : List Node) (r s : ImportAttributes)
    → AreClauseAttributes properties r
    → AreClauseAttributes properties s → r ≡ s
AreClauseAttributes-unique properties attributes.None attributes.None a b = refl
AreClauseAttributes-unique properties attributes.None attributes.Unknown a b = absurd (a b.0 b.1)
AreClauseAttributes-unique properties attributes.None (attributes.Known fs) a b =
    absurd (a b.greatest b.is_clause)
AreClauseAttributes-unique properties attributes.Unknown attributes.None a b = absurd (b a.0 a.1)
AreClauseAttributes-unique properties attributes.Unknown attributes.Unknown a b = refl
AreClauseAttributes-unique properties attributes.Unknown (attributes.Known fs) a b =
    absurd (b.known a.0 a.1 a.2)
AreClauseAttributes-unique properties (attributes.Known es) attributes.None a b =
    absurd (b a.greatest a.is_clause)
AreClauseAttributes-unique properties (attributes.Known es) attributes.Unknown a b =
    absurd (a.known b.0 b.1 b.2)
AreClauseAttributes-unique properties (attributes.Known es) (attributes.Known fs) a b =
    IsOfLastClause-unique properties (attributes.Known es) (attributes.Known fs) a b

pub AreCallAttributes-unique : (second : Option (Arg × Node)) → IsUnique (AreCallAttributes second)
AreCallAttributes-unique None = unique_equal attributes.None
AreCallAttributes-unique (Some second) =
    unique_by (not second.0.spread && is_object (kind_of second.1) && has_static_keys second.1)
    (AreClauseAttributes (children_of second.1)) (λ r. r ≡ attributes.Unknown)
    (AreClauseAttributes-unique (children_of second.1)) (unique_equal attributes.Unknown)
