-- A JSON value (RFC 8259) as a flat list keeps it.
use Rattle.std.specs.Prelude.{◌≡◌, ℕ, zero, suc, ◌+◌, ◌*◌, Bool, List, [], ◌∷◌, ◌++◌, length, take, drop}
use Rattle.std.specs.Prelude.{unwrap_or}
use Rattle.json.specs.Json.{Json}
use Rattle.json.specs.Json as json
use Rattle.serde_json.specs.Data.{Num, unsigned}
use Rattle.serde_json.specs.Read.{number_of}
use Rattle.deno_graph_json.specs.Flat.{PlainNode}
use Rattle.deno_graph_json.specs.Flat as flat

mutual
  pub data Value : Type 0 where
    null : Value
    boolean : Bool → Value
    number : Num → Value
    string : List ℕ → Value
    array : ValueItems → Value
    object : ValueMembers → Value

  pub data ValueItems : Type 0 where
    no_items : ValueItems
    item : Value → ValueItems → ValueItems

  pub data ValueMembers : Type 0 where
    no_members : ValueMembers
    member : List ℕ → Value → ValueMembers → ValueMembers

abbrev pub item_count : ValueItems → ℕ
item_count no_items = 0
item_count (item v vs) = item_count vs + 1

abbrev pub number_value : List ℕ → Value
number_value text = number (unwrap_or (number_of text) (unsigned 0))

-- the part of a JSON value that a flat list keeps
unfoldable mutual
  pub plain_value : Json → Value
  plain_value json.null = null
  plain_value (json.boolean b) = boolean b
  plain_value (json.number text) = number_value text
  plain_value (json.string s) = string s
  plain_value (json.array js) = array (plain_items js)
  plain_value (json.object ms) = object (plain_members ms)

  pub plain_items : json.Items → ValueItems
  plain_items json.no_items = no_items
  plain_items (json.item j js) = item (plain_value j) (plain_items js)

  pub plain_members : json.Members → ValueMembers
  plain_members json.no_members = no_members
  plain_members (json.member k j ms) = member k (plain_value j) (plain_members ms)

-- The node of a value, followed by the nodes of its items or members.
unfoldable mutual
  pub flat_value : Value → List PlainNode
  flat_value null = flat.null ∷ []
  flat_value (boolean b) = flat.boolean b ∷ []
  flat_value (number x) = flat.number x ∷ []
  flat_value (string s) = flat.string s ∷ []
  flat_value (array vs) = flat.array (item_count vs) (length (flat_items vs)) ∷ flat_items vs
  flat_value (object ms) = flat.object (length (flat_members ms)) ∷ flat_members ms

  pub flat_items : ValueItems → List PlainNode
  flat_items no_items = []
  flat_items (item v vs) = flat_value v ++ flat_items vs

  pub flat_members : ValueMembers → List PlainNode
  flat_members no_members = []
  flat_members (member k v ms) = flat.key k ∷ (flat_value v ++ flat_members ms)

-- ---- the value of a flat list

-- the number of nodes in the value, after this node
abbrev pub plain_inside : PlainNode → ℕ
plain_inside flat.null = 0
plain_inside (flat.boolean _) = 0
plain_inside (flat.number _) = 0
plain_inside (flat.string _) = 0
plain_inside (flat.key _) = 0
plain_inside (flat.array _ nodes) = nodes
plain_inside (flat.object nodes) = nodes

-- the nodes after the first value
abbrev pub after_value : List PlainNode → List PlainNode
after_value [] = []
after_value (n ∷ ns) = drop (plain_inside n) ns

-- The first argument bounds the recursion: twice the number of the nodes is always enough.
unfoldable mutual
  pub value_within : ℕ → List PlainNode → Value
  value_within zero ns = null
  value_within (suc turns) [] = null
  value_within (suc turns) (flat.null ∷ ns) = null
  value_within (suc turns) (flat.boolean b ∷ ns) = boolean b
  value_within (suc turns) (flat.number x ∷ ns) = number x
  value_within (suc turns) (flat.string s ∷ ns) = string s
  value_within (suc turns) (flat.key s ∷ ns) = null
  value_within (suc turns) (flat.array _ nodes ∷ ns) = array (items_within turns (take nodes ns))
  value_within (suc turns) (flat.object nodes ∷ ns) = object (members_within turns (take nodes ns))

  pub items_within : ℕ → List PlainNode → ValueItems
  items_within zero ns = no_items
  items_within (suc turns) [] = no_items
  items_within (suc turns) (n ∷ ns) =
      item (value_within turns (n ∷ ns)) (items_within turns (after_value (n ∷ ns)))

  pub members_within : ℕ → List PlainNode → ValueMembers
  members_within zero ns = no_members
  members_within (suc turns) [] = no_members
  members_within (suc turns) (flat.null ∷ ns) = no_members
  members_within (suc turns) (flat.boolean b ∷ ns) = no_members
  members_within (suc turns) (flat.number x ∷ ns) = no_members
  members_within (suc turns) (flat.string s ∷ ns) = no_members
  members_within (suc turns) (flat.key k ∷ ns) =
      member k (value_within turns ns) (members_within turns (after_value ns))
  members_within (suc turns) (flat.array _ nodes ∷ ns) = no_members
  members_within (suc turns) (flat.object nodes ∷ ns) = no_members

-- the value, the items and the members with these nodes
unfoldable pub value_in : List PlainNode → Value
value_in nodes = value_within (2 * length nodes) nodes

unfoldable pub items_in : List PlainNode → ValueItems
items_in nodes = items_within (2 * length nodes) nodes

unfoldable pub members_in : List PlainNode → ValueMembers
members_in nodes = members_within (2 * length nodes) nodes

-- the nodes are the flat list of a value, of items or of members
abbrev pub AreOfValue : List PlainNode → Type 0
AreOfValue nodes = flat_value (value_in nodes) ≡ nodes

abbrev pub AreOfItems : List PlainNode → Type 0
AreOfItems nodes = flat_items (items_in nodes) ≡ nodes

abbrev pub AreOfMembers : List PlainNode → Type 0
AreOfMembers nodes = flat_members (members_in nodes) ≡ nodes
