-- The JSON value of a part of a tape, as the flat list keeps it.
use Rattle.std.specs.Prelude.{◌≡◌, ℕ, List, length, map, Option, Some, None}
use Rattle.std.specs.Borrow.{Bor}
use Rattle.deno_graph_json.specs.Flat.{plain, IsTextOf}
use Rattle.deno_graph_json.specs.Value.{Value, null, boolean, number, string, array, object, ValueItems}
use Rattle.deno_graph_json.specs.Value.{no_items, item, ValueMembers, no_members, member, plain_value}
use Rattle.deno_graph_json.specs.Value.{value_in, items_in, members_in}
use Rattle.json.specs.Json.{Json}
use Rattle.serde_json.specs.Data.{unsigned, negative, float}
use Rattle.deno_graph_json.specs.declared.flat.Element.{Element}
use Rattle.deno_graph_json.specs.declared.flat.Elements.{Elements}
use Rattle.deno_graph_json.specs.declared.flat.Members.{Members}
use Rattle.deno_graph_json.specs.declared.flat.Tape.{Tape}
use Rattle.deno_graph_json.specs.declared.flat.view.View.{View}
use Rattle.deno_graph_json.specs.declared.flat.view.View.TheVariants as view

-- the value of the whole text
unfoldable pub tape_value : Tape → Value
tape_value tape = value_in (map plain tape.nodes.items)

unfoldable pub value_of : Element → Value
value_of element = value_in (map plain element.nodes.now)

-- the elements that are left
unfoldable pub items_left : Elements → ValueItems
items_left elements = items_in (map plain elements.nodes.now)

-- the number of the elements that are left
abbrev pub count_of : Elements → ℕ
count_of elements = elements.count

-- the members that are left
unfoldable pub members_of : Members → ValueMembers
members_of members = members_in (map plain members.nodes.now)

-- an upper bound of the number of the members that are left
abbrev pub left_of : Members → ℕ
left_of members = length members.nodes.now

-- the element that was found, if there was one, followed by those that are left
abbrev pub items_with : Option Element → ValueItems → ValueItems
items_with None left = no_items
items_with (Some element) left = item (value_of element) left

abbrev pub members_with : Option (Bor (List ℕ) × Element) → ValueMembers → ValueMembers
members_with None left = no_members
members_with (Some found) left = member found.0.now (value_of found.1) left

-- what an element is, one level deep
abbrev pub view_value : View → Value
view_value view.Null = null
view_value (view.Bool b) = boolean b
view_value (view.Whole n) = number (unsigned n)
view_value (view.Negative z) = number (negative z)
view_value (view.Float x) = number (float x)
view_value (view.String s) = string s.now
view_value (view.Array elements) = array (items_left elements)
view_value (view.Object members) = object (members_of members)

-- the text is a JSON value, and this is the part of it that a flat list keeps
abbrev pub IsValueOf : List ℕ → Value → Type 0
IsValueOf text value = (j : Json) × IsTextOf text j × (value ≡ plain_value j)
