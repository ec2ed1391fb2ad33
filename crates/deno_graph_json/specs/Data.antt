-- The JSON value of an element, as `serde_json` has it: of several members of one name the last stays.
use Rattle.std.specs.Prelude.{List, [], ◌∷◌, ℕ}
use Rattle.serde_json.specs.Data.{Data, null, boolean, number, string, array, object, unsigned, negative}
use Rattle.serde_json.specs.Data.{float, Items, no_items, item, Members, no_members, member, put}
use Rattle.deno_graph_json.specs.Value.{Value, ValueItems, ValueMembers}
use Rattle.deno_graph_json.specs.Value as flat
use Rattle.deno_graph_json.specs.View.{value_of, tape_value, items_left, members_of}
use Rattle.deno_graph_json.specs.declared.flat.Element.{Element}
use Rattle.deno_graph_json.specs.declared.flat.Elements.{Elements}
use Rattle.deno_graph_json.specs.declared.flat.Members.{Members as ElementMembers}
use Rattle.deno_graph_json.specs.declared.flat.Tape.{Tape}
use Rattle.deno_graph_json.specs.declared.flat.view.View.{View}
use Rattle.deno_graph_json.specs.declared.flat.view.View.TheVariants as view

unfoldable mutual
  pub value_data : Value → Data
  value_data flat.null = null
  value_data (flat.boolean b) = boolean b
  value_data (flat.number n) = number n
  value_data (flat.string s) = string s
  value_data (flat.array vs) = array (items_data vs)
  value_data (flat.object ms) = object (put_members ms no_members)

  pub items_data : ValueItems → Items
  items_data flat.no_items = no_items
  items_data (flat.item v vs) = item (value_data v) (items_data vs)

  -- the members, after which the others are put, one after another
  pub put_members : ValueMembers → Members → Members
  put_members flat.no_members found = found
  put_members (flat.member k v ms) found = put_members ms (put k (value_data v) found)

-- the value of the whole text
unfoldable pub tape_data : Tape → Data
tape_data tape = value_data (tape_value tape)

unfoldable pub data_of : Element → Data
data_of element = value_data (value_of element)

-- the elements that are left
unfoldable pub elements_data : Elements → Items
elements_data elements = items_data (items_left elements)

unfoldable pub members_data : ElementMembers → Members
members_data members = put_members (members_of members) no_members

-- what an element is, one level deep
abbrev pub view_data : View → Data
view_data view.Null = null
view_data (view.Bool b) = boolean b
view_data (view.Whole n) = number (unsigned n)
view_data (view.Negative z) = number (negative z)
view_data (view.Float x) = number (float x)
view_data (view.String s) = string s.now
view_data (view.Array elements) = array (elements_data elements)
view_data (view.Object members) = object (members_data members)

-- members with these names and elements
abbrev pub named_data : List (List ℕ × Element) → Members
named_data [] = no_members
named_data (e ∷ es) = member e.0 (data_of e.1) (named_data es)
