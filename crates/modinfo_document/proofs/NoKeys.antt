-- A name that a table lacks is no key of the table.
use Rattle.std.proofs.Common.{◌≡◌, ℕ, List, [], ◌∷◌, ◌++◌, codes, map, bytes_eq, Bool, true, false, cond}
use Rattle.std.proofs.Common.{Some, None, refl, sym}
use Rattle.std.specs.List.{AllByRecursion}
use Rattle.std.proofs.lemmas.Option.{none-some}
use Rattle.serde_json.specs.Data.{Members, string}
use Rattle.deno_graph_json.specs.Read.Expected.{IsNoNameIn}
use Rattle.deno_graph_json.specs.declared.names.NameList.TheVariants.{Kinds}
use Rattle.modinfo_document.specs.Kind.{kinds}
use Rattle.modinfo_document.specs.Named.{named}

-- The name differs from each key.
abbrev pub IsNoKey : {A : Type 0} → List (List ℕ × A) → List ℕ → Type 0
IsNoKey table name = AllByRecursion (λ key. bytes_eq name key ≡ false) (map (λ entry. entry.0) table)

is_no_key : {A : Type 0} (table : List (List ℕ × A)) (name : List ℕ) → named table name ≡ None
    → IsNoKey table name
unfolding named
is_no_key [] name lacks = tt
is_no_key ((key, x) ∷ table) name lacks = by (bytes_eq name key) refl lacks (is_no_key table name)
  where
    by : (b : Bool) → bytes_eq name key ≡ b → cond b (Some x) (named table name) ≡ None
        → (named table name ≡ None → IsNoKey table name)
        → IsNoKey ((key, x) ∷ table) name
    by true is lacks later = absurd (none-some x (sym lacks))
    by false is lacks later = (is, later lacks)

-- The first of a list that has a property may as well be the last.
all_with_last : {A : Type 0} (P : A → Type 0) (x : A) (xs : List A) → P x → AllByRecursion P xs
    → AllByRecursion P (xs ++ (x ∷ []))
all_with_last P x [] here all = (here, tt)
all_with_last P x (y ∷ xs) here (first, others) = (first, all_with_last P x xs here others)

but_first : {A : Type 0} → List A → List A
but_first [] = []
but_first (x ∷ xs) = xs

-- A name that the table of kinds lacks is none in the list of kinds, which has the first of the table last.
pub is_no_kind : (members : Members) (name : List ℕ) → named (kinds members) name ≡ None
    → IsNoNameIn Kinds (string name)
unfolding but_first
is_no_kind members name lacks =
    let all = is_no_key (kinds members) name lacks in
    all_with_last (λ key. bytes_eq name key ≡ false) (codes "Other")
    (but_first (map (λ entry. entry.0) (kinds members))) all.0 all.1
