-- Finding the last member of each of several names.
use Rattle.std.proofs.Common.{◌≡◌, ℕ, zero, suc, ◌+◌, ◌<◌, ◌≤◌, true, false, List, [], ◌∷◌, ◌++◌, length}
use Rattle.std.proofs.Common.{take, drop, replicate, get_or, set, Option, Some, None, Bor, add-one, drop-cons}
use Rattle.std.proofs.Common.{take-suc, append_assoc, arith, refl, sym, ap, ◌∙◌}
use Rattle.std.specs.Str.{bytes_eq}
use Rattle.std.proofs.lemmas.List.{drop_all, drop-set-lt, take-append-drop, take_more_set}
use Rattle.serde_json.specs.Data.{Members, no_members, put}
use Rattle.deno_graph_json.specs.Data.{data_of}
use Rattle.deno_graph_json.specs.Found.{AreFound}
use Rattle.deno_graph_json.specs.internal.Found.{after_member}
use Rattle.deno_graph_json.specs.declared.flat.Element.{Element}
use Rattle.deno_graph_json.proofs.LastMembers.{found_next}

abbrev Name : Type 0
Name = Bor (List ℕ)

-- ---- setting the elements of one name, one after another

module _ (names : List Name) (key : List ℕ) (value : Element) where
  -- the first `index` elements, followed by the others as they will be
  abbrev pub whole : ℕ → List (Option Element) → List (Option Element)
  whole index elements =
      take index elements ++ after_member (drop index names) key value (drop index elements)

  module _ (index : ℕ) (elements : List (Option Element)) (name : Name) (of_names : index < length names)
      (of_elements : index < length elements) where
    first_name : drop index names ≡ get_or names index name ∷ drop (index + 1) names
    first_name = drop-cons names index name of_names
        ∙ ap (λ n. get_or names index name ∷ drop n names) (sym (add-one index))

    first_element : drop index elements ≡ get_or elements index None ∷ drop (index + 1) elements
    first_element = drop-cons elements index None of_elements
        ∙ ap (λ n. get_or elements index None ∷ drop n elements) (sym (add-one index))

    pub set_here : bytes_eq key (get_or names index name).now ≡ true
        → whole (index + 1) (set elements index (Some value)) ≡ whole index elements
    set_here same =
        rw (
          take_more_set elements index (Some value) of_elements,
          drop-set-lt (index + 1) elements index (Some value) (omega arith),
          first_name,
          first_element,
          same,
        )
        (append_assoc (take index elements) (Some value ∷ [])
        (after_member (drop (index + 1) names) key value (drop (index + 1) elements)))

    pub keep_here : bytes_eq key (get_or names index name).now ≡ false
        → whole (index + 1) elements ≡ whole index elements
    keep_here other =
        let more : take (index + 1) elements ≡ take index elements ++ get_or elements index None ∷ [] =
        ap (λ n. take n elements) (add-one index) ∙ take-suc elements index None of_elements in
        rw (more, first_name, first_element, other)
        (append_assoc (take index elements) (get_or elements index None ∷ [])
        (after_member (drop (index + 1) names) key value (drop (index + 1) elements)))

  none_after : (ns : List Name) → after_member ns key value [] ≡ []
  none_after [] = refl
  none_after (n ∷ ns) = refl

  pub none_left : (index : ℕ) (elements : List (Option Element)) → length elements ≤ index
      → whole index elements ≡ elements
  none_left index elements past =
      ap (λ es. take index elements ++ es)
      (ap (after_member (drop index names) key value) (drop_all index elements past)
      ∙ none_after (drop index names) ∙ sym (drop_all index elements past))
      ∙ take-append-drop index elements

-- ---- the elements of the members that are put

-- no element is set
pub none_found : (names : List Name) (count : ℕ) → AreFound names no_members (replicate count None)
none_found [] count = tt
none_found (name ∷ names) zero = tt
none_found (name ∷ names) (suc count) = (refl, none_found names count)

-- after one more member
pub found_more : (names : List Name) (key : List ℕ) (e : Element) (passed : Members)
    (elements : List (Option Element)) → AreFound names passed elements
    → AreFound names (put key (data_of e) passed) (after_member names key e elements)
found_more [] key e passed elements h = tt
found_more (name ∷ names) key e passed [] h = tt
found_more (name ∷ names) key e passed (element ∷ elements) h = (
  found_next name.now key e element passed (bytes_eq key name.now) refl h.0,
  found_more names key e passed elements h.1,
)
