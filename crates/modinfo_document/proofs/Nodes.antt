-- Reading nodes from the members of their objects.
use Rattle.std.proofs.Common.{◌≡◌, ℕ, ◌≤◌, ◌+◌, max, List, [], ◌∷◌, codes, ◌<◌, Some, arith, refl, sym, ap}
use Rattle.std.proofs.Common.{◌∙◌}
use Rattle.std.proofs.lemmas.Option.{none-some, option_and_then_some}
use Rattle.std.specs.Cmp.Lexicographic.{slice_cmp}
use Rattle.std.specs.Ordering.{nat_cmp, match_ordering}
use Rattle.std.specs.declared.cmp.Ordering.{Ordering}
use Rattle.std.specs.declared.cmp.Ordering.TheVariants.{Less, Equal, Greater}
use Rattle.serde_json.specs.Data.{Data, null, boolean, number, string, array, object, Items, no_items, item}
use Rattle.serde_json.specs.Data.{Members, no_members, member, depth, items_depth, members_depth}
use Rattle.serde_json.specs.Find.{as_array, as_object, get_member}
use Rattle.deno_graph_json.specs.Read.Partial.{◌>>=◌, read_or, reads_array, reads_items}
use Rattle.deno_graph_json.proofs.Reading.{is_array, is_object}
use Rattle.modinfo_document.specs.Node.{reads_node, reads_nodes, reads_each, children_in, node_with}
use Rattle.modinfo_document.specs.internal.Lookup.{member_items, member_of}

each_read : (ds : Items) → reads_each ds ≡ reads_items reads_node ds
unfolding reads_each reads_items
each_read no_items = refl
each_read (item d ds) = ap (λ o. reads_node d >>= (λ x. o >>= (λ xs. Some (x ∷ xs)))) (each_read ds)

pub nodes_read : (d : Data) → reads_nodes d ≡ reads_array reads_node d
unfolding reads_nodes reads_array
nodes_read null = refl
nodes_read (boolean b) = refl
nodes_read (number x) = refl
nodes_read (string s) = refl
nodes_read (array ds) = each_read ds
nodes_read (object ms) = refl

pub children_read : (ms : Members) → children_in ms ≡ read_or reads_nodes []
    (get_member (codes "children") ms)
unfolding children_in
children_read no_members = refl
children_read (member k d ms) = by (children_read ms) (slice_cmp nat_cmp (codes "children") k)
  where
    by : children_in ms ≡ read_or reads_nodes [] (get_member (codes "children") ms)
        → (o : Ordering) → match_ordering o (children_in ms) (reads_nodes d) (children_in ms)
        ≡ read_or reads_nodes []
        (match_ordering o (get_member (codes "children") ms) (Some d) (get_member (codes "children") ms))
    by later Less = later
    by later Equal = refl
    by later Greater = later

pub node_read : (d : Data) → reads_node d ≡ (as_object d >>= (λ ms. node_with ms (children_in ms)))
unfolding reads_node
node_read null = refl
node_read (boolean b) = refl
node_read (number x) = refl
node_read (string s) = refl
node_read (array ds) = refl
node_read (object ms) = refl

-- ---- how deep values nest

pub depth_of_object : (d : Data) (ms : Members) → as_object d ≡ Some ms → depth d ≡ members_depth ms + 1
depth_of_object d ms is = ap depth (is_object d ms is) ∙ omega arith

pub depth_of_array : (d : Data) (ds : Items) → as_array d ≡ Some ds → depth d ≡ items_depth ds + 1
depth_of_array d ds is = ap depth (is_array d ds is) ∙ omega arith

pub depth_of_named : (name : List ℕ) (ms : Members) (d : Data) → get_member name ms ≡ Some d
    → depth d ≤ members_depth ms
depth_of_named name no_members d is = absurd (none-some _ is)
depth_of_named name (member k e ms) d is = by (depth_of_named name ms d) (slice_cmp nat_cmp name k) is
  where
    by : (get_member name ms ≡ Some d → depth d ≤ members_depth ms) → (o : Ordering)
        → match_ordering o (get_member name ms) (Some e) (get_member name ms) ≡ Some d
        → depth d ≤ max (depth e) (members_depth ms)
    by later Less found = omega (arith, later found)
    by later Equal found = let same : e ≡ d = cc in omega (arith, ap depth same)
    by later Greater found = omega (arith, later found)

-- The items of an array that is a member.
pub depth_of_items : (name : List ℕ) (value : Data) (ds : Items) → Some ds ≡ member_items name value
    → items_depth ds + 1 < depth value
unfolding member_items member_of
depth_of_items name value ds is =
    option_and_then_some _ (as_object value >>= get_member name) ds (sym is)
    (λ array found listed. option_and_then_some (get_member name) (as_object value) array found
    (λ ms object named.
    let outer = depth_of_object value ms object in
    let inner = depth_of_named name ms array named in
    let here = depth_of_array array ds listed in omega (arith, outer, inner, here)))
