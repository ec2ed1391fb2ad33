-- The flat list of a JSON value (RFC 8259), and the texts that can be read.
use Rattle.std.specs.Prelude.{◌≡◌, ℕ, ◌+◌, ◌≤◌, Bool, true, List, [], ◌∷◌, ◌++◌, length, map, IsTrue, is_some}
use Rattle.std.specs.Prelude.{unwrap_or}
use Rattle.std.specs.List.{list_all}
use Rattle.json.specs.Json.{Json, Items, no_items, item, Members, no_members, member}
use Rattle.json.specs.Json as json
use Rattle.json.specs.Lex.{tokens}
use Rattle.json.specs.Token.{Token}
use Rattle.json.specs.Tree.{json_tokens, depth}
use Rattle.serde_json.specs.Data.{Num, unsigned, negative, float}
use Rattle.serde_json.specs.Read.{number_of}
use Rattle.deno_graph_json.specs.declared.flat.FlatNode.{FlatNode}
use Rattle.deno_graph_json.specs.declared.flat.FlatNode.TheVariants as node

-- a node with its text in place of a reference to the text
pub data PlainNode : Type 0 where
  null : PlainNode
  boolean : Bool → PlainNode
  number : Num → PlainNode
  string : List ℕ → PlainNode
  key : List ℕ → PlainNode
  array : ℕ → ℕ → PlainNode
  object : ℕ → PlainNode

abbrev pub plain : FlatNode → PlainNode
plain node.Null = null
plain (node.Bool b) = boolean b
plain (node.Whole n) = number (unsigned n)
plain (node.Negative z) = number (negative z)
plain (node.Float x) = number (float x)
plain (node.String s) = string s.now
plain (node.Key s) = key s.now
plain (node.Array elements nodes) = array elements nodes
plain (node.Object nodes) = object nodes

-- the node of a number that fits
abbrev pub number_node : List ℕ → PlainNode
number_node text = number (unwrap_or (number_of text) (unsigned 0))

abbrev pub element_count : Items → ℕ
element_count no_items = 0
element_count (item j js) = element_count js + 1

-- The node of a value, followed by the nodes of its items or members.
abbrev mutual
  pub flat_list : Json → List PlainNode
  flat_list json.null = null ∷ []
  flat_list (json.boolean b) = boolean b ∷ []
  flat_list (json.number text) = number_node text ∷ []
  flat_list (json.string s) = string s ∷ []
  flat_list (json.array js) = array (element_count js) (length (items_list js)) ∷ items_list js
  flat_list (json.object ms) = object (length (members_list ms)) ∷ members_list ms

  pub items_list : Items → List PlainNode
  items_list no_items = []
  items_list (item j js) = flat_list j ++ items_list js

  pub members_list : Members → List PlainNode
  members_list no_members = []
  members_list (member k j ms) = key k ∷ (flat_list j ++ members_list ms)

-- whether the number is a whole number of 64 bits, or the nearest float is finite
abbrev pub number_fits : List ℕ → Bool
number_fits text = is_some (number_of text)

abbrev pub token_fits : Token → Bool
token_fits (Token.number text) = number_fits text
token_fits _ = true

-- The text is this value, arrays and objects nest at most 127 deep, and each number fits.
abbrev pub IsTextOf : List ℕ → Json → Type 0
IsTextOf text j = (tokens text ≡ json_tokens j) × (depth j ≤ 127)
    × IsTrue (list_all token_fits (json_tokens j))

-- the text is a value, and the nodes are the value's flat list
abbrev pub IsFlatText : List ℕ → List FlatNode → Type 0
IsFlatText text nodes = (j : Json) × IsTextOf text j × (map plain nodes ≡ flat_list j)

-- the text isn't a value that can be read
abbrev pub IsUnreadable : List ℕ → Type 0
IsUnreadable text = (j : Json) → IsTextOf text j → ⊥
