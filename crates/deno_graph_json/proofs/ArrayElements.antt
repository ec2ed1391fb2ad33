-- The elements of an array, one after another.
use Rattle.std.proofs.Common.{◌≡◌, ◌≢◌, ℕ, zero, suc, ◌+◌, ◌-◌, ◌≤◌, Option, Some, None, arith, refl, sym, ap}
use Rattle.std.proofs.Common.{◌∙◌}
use Rattle.serde_json.specs.Data.{Data, Items, no_items, item, depth, items_depth}
use Rattle.serde_json.specs.Find.{get_item}
use Rattle.deno_graph_json.specs.Data.{data_of, elements_data, items_data}
use Rattle.serde_json.specs.Events.{items_len}
use Rattle.deno_graph_json.specs.Value.{Value, ValueItems}
use Rattle.deno_graph_json.specs.Value as flat
use Rattle.deno_graph_json.specs.View.{count_of, items_left, items_with}
use Rattle.deno_graph_json.specs.declared.flat.Element.{Element}
use Rattle.deno_graph_json.specs.declared.flat.Elements.{Elements}

-- the element that was found, if there was one, followed by those that are left
abbrev pub items_found : Option Element → Items → Items
items_found None left = no_items
items_found (Some element) left = item (data_of element) left

pub elements_next : (old new : Elements) (found : Option Element)
    → items_left old ≡ items_with found (items_left new)
    → elements_data old ≡ items_found found (elements_data new)
unfolding elements_data items_data data_of
elements_next old new None is = ap items_data is
elements_next old new (Some element) is = ap items_data is

-- the next element counts
pub count_next : (old new : Elements) (element : Element)
    → items_left old ≡ items_with (Some element) (items_left new) → count_of old ≡ count_of new + 1
unfolding items_left
count_next old new element is =
    old.is_counted ∙ ap flat.item_count is ∙ ap (λ n. n + 1) (sym new.is_counted)

same_length : (vs : ValueItems) → flat.item_count vs ≡ items_len (items_data vs)
unfolding items_data
same_length flat.no_items = refl
same_length (flat.item v vs) = omega (arith, same_length vs)

-- the number of the elements, as data
pub elements_counted : (elements : Elements) → count_of elements ≡ items_len (elements_data elements)
unfolding elements_data items_left
elements_counted elements = elements.is_counted ∙ same_length (items_left elements)

item_next : (n : ℕ) (d : Data) (ds : Items) → n ≢ 0 → get_item n (item d ds) ≡ get_item (n - 1) ds
item_next zero d ds some = absurd (some refl)
item_next (suc n) d ds some = let fewer : n ≡ suc n - 1 = omega arith in ap (λ k. get_item k ds) fewer

-- the element with an index, after the first of those that are left
pub nth_next : (n : ℕ) (old new : Elements) (element : Element) → n ≢ 0
    → items_left old ≡ items_with (Some element) (items_left new)
    → get_item (n - 1) (elements_data new) ≡ get_item n (elements_data old)
nth_next n old new element some is =
    sym (item_next n (data_of element) (elements_data new) some)
    ∙ ap (get_item n) (sym (elements_next old new (Some element) is))

pub nth_here : (n : ℕ) (old new : Elements) (element : Element) → n ≡ 0
    → items_left old ≡ items_with (Some element) (items_left new)
    → Some (data_of element) ≡ get_item n (elements_data old)
nth_here n old new element none is = rw (none, elements_next old new (Some element) is) refl

-- the items from index `number` on
abbrev pub AreFrom : ℕ → Items → Items → Type 0
AreFrom number all left = (n : ℕ) → get_item (n + number) all ≡ get_item n left

pub from_begin : (number : ℕ) (all left : Items) → number ≡ 0 → left ≡ all → AreFrom number all left
from_begin number all left none same n =
    let here : n + number ≡ n = omega arith in rw (here, same)

pub from_next : (number : ℕ) (all left rest : Items) (d : Data) → AreFrom number all left → left ≡ item d rest
    → AreFrom (number + 1) all rest
from_next number all left rest d from first n =
    let later : n + (number + 1) ≡ suc n + number = omega arith in
    ap (λ m. get_item m all) later ∙ from (suc n) ∙ ap (get_item (suc n)) first

pub from_here : (number : ℕ) (all left rest : Items) (d : Data) → AreFrom number all left → left ≡ item d rest
    → get_item number all ≡ Some d
from_here number all left rest d from first =
    let here : number ≡ 0 + number = omega arith in
    ap (λ m. get_item m all) here ∙ from 0 ∙ ap (get_item 0) first

pub depth_of_item : (n : ℕ) (ds : Items) (d : Data) → get_item n ds ≡ Some d → depth d ≤ items_depth ds
depth_of_item n no_items d is = absurd (cc)
depth_of_item zero (item e ds) d is = let same : e ≡ d = cc in omega (arith, ap depth same)
depth_of_item (suc n) (item e ds) d is = omega (arith, depth_of_item n ds d is)
