-- The import attributes of a declaration, an import type or a call, by the properties of an object
-- literal.
use Rattle.std.specs.Prelude.{◌≡◌, ◌≢◌, ℕ, ◌<◌, ◌-◌, ◌↔◌, ◌⊎◌, Bool, not, ◌&&◌, List, length, codes, Option}
use Rattle.std.specs.Prelude.{Some, None, is_some, option_map, option_and_then, slice_get, MatchBool}
use Rattle.std.specs.List.{list_all}
use Rattle.deno_graph_source.specs.declared.tree.node.Arg.{Arg}
use Rattle.deno_graph_source.specs.declared.tree.node.Kind.{Kind}
use Rattle.deno_graph_source.specs.declared.tree.node.Kind.TheVariants.{Str, KeyValue}
use Rattle.deno_graph_source.specs.declared.tree.node.Node.{Node}
use Rattle.deno_graph_source.specs.declared.tree.node.PropKey.{PropKey}
use Rattle.deno_graph_source.specs.declared.tree.node.PropKey.TheVariants as key
use Rattle.deno_graph_base.specs.JsString.{readable_text}
use Rattle.deno_graph_source.specs.Node.{kind_of, children_of, is_object}
use Rattle.deno_graph_base.specs.TextMap.{value_at, IsAscending}
use Rattle.deno_graph_info.specs.declared.analysis.import_attributes.ImportAttribute.{ImportAttribute}
use Rattle.deno_graph_info.specs.declared.analysis.import_attributes.ImportAttribute.TheVariants as attribute
use Rattle.deno_graph_info.specs.declared.analysis.import_attributes.ImportAttributes.{ImportAttributes}
use Rattle.deno_graph_info.specs.declared.analysis.import_attributes.ImportAttributes.TheVariants as attributes

-- a static key: an identifier, or a string without lone surrogates
abbrev pub key_text : PropKey → Option (List ℕ)
key_text (key.Ident name) = Some name
key_text (key.Str points) = readable_text points
key_text key.Other = None

abbrev pub static_key_of_kind : Kind → Option (List ℕ)
static_key_of_kind (KeyValue key) = key_text key
static_key_of_kind _ = None

-- the static key of a property: only a property `key: value` has one
abbrev pub static_key : Node → Option (List ℕ)
static_key property = static_key_of_kind (kind_of property)

-- a string literal without lone surrogates
abbrev pub text_of_kind : Kind → Option (List ℕ)
text_of_kind (Str points) = readable_text points
text_of_kind _ = None

-- the value of a property is its last child
abbrev pub value_node : Node → Option Node
value_node property = slice_get (children_of property) (length (children_of property) - 1)

-- the static value of a property: a string literal without lone surrogates
abbrev pub static_value : Node → Option (List ℕ)
static_value property =
    option_and_then (λ value. text_of_kind (kind_of value)) (value_node property)

-- whether each property of an object literal has a static key
abbrev pub has_static_keys : Node → Bool
has_static_keys object = list_all (λ property. is_some (static_key property)) (children_of object)

-- attributes with their keys, in the order of the keys' bytes
abbrev pub Entries : Type 0
Entries = List (List ℕ × ImportAttribute)

-- the key and the attribute that a property gives, if it gives one
abbrev pub Giving : Type 0
Giving = Node → Option (List ℕ × ImportAttribute)

-- in a declaration a property with a static key and a static value gives them; others give nothing
abbrev pub declared : Giving
declared property =
    option_and_then (λ name.
    option_map (λ value. (name, attribute.Known value)) (static_value property))
    (static_key property)

-- the attribute of a value: known if the value is static
abbrev pub attribute_of : Option (List ℕ) → ImportAttribute
attribute_of (Some value) = attribute.Known value
attribute_of None = attribute.Unknown

-- in any other object literal a property with a static key gives it, with a known or unknown value
abbrev pub in_object : Giving
in_object property =
    option_map (λ name. (name, attribute_of (static_value property))) (static_key property)

-- of the properties that give this key, the last one gives this value
pub record GivesLast (gives : Giving) (properties : List Node)
    (name : List ℕ) (value : ImportAttribute) : Type 0 where
  pub index : ℕ
  pub property : Node
  pub there : slice_get properties index ≡ Some property
  pub given : gives property ≡ Some (name, value)
  pub last : (greater : ℕ) (other : Node) (other_value : ImportAttribute) → index < greater
      → slice_get properties greater ≡ Some other → gives other ≢ Some (name, other_value)

-- the entries have each key with the value that is given last, and no other key
pub record HoldsLast (gives : Giving) (properties : List Node) (entries : Entries) : Type 0 where
  pub ascending : IsAscending entries
  pub values : (name : List ℕ) (value : ImportAttribute)
      → (value_at entries name ≡ Some value) ↔ GivesLast gives properties name value

-- the attributes are known, and are those that are given last
abbrev pub KnowsLast : Giving → List Node → ImportAttributes → Type 0
KnowsLast gives properties (attributes.Known entries) = HoldsLast gives properties entries
KnowsLast gives properties attributes.Unknown = ⊥
KnowsLast gives properties attributes.None = ⊥

-- the attributes of an import or export declaration with this clause
abbrev pub AreDeclarationAttributes : Option Node → ImportAttributes → Type 0
AreDeclarationAttributes None result = result ≡ attributes.None
AreDeclarationAttributes (Some clause) result = KnowsLast declared (children_of clause) result

-- the attributes of an object literal
abbrev pub AreObjectAttributes : Node → ImportAttributes → Type 0
AreObjectAttributes object result =
    MatchBool (has_static_keys object)
    (KnowsLast in_object (children_of object) result)
    (result ≡ attributes.Unknown)

-- the attributes of a property's value, which are unknown if the value is no object literal
abbrev pub AreValueAttributes : Option Node → ImportAttributes → Type 0
AreValueAttributes None result = result ≡ attributes.Unknown
AreValueAttributes (Some value) result =
    MatchBool (is_object (kind_of value)) (AreObjectAttributes value result) (result ≡ attributes.Unknown)

-- the attributes of the value of the property with this index
abbrev pub AreAttributesAt : List Node → ℕ → ImportAttributes → Type 0
AreAttributesAt properties index result =
    AreValueAttributes (option_and_then value_node (slice_get properties index)) result

-- the static key of the property with this index
abbrev pub key_at : List Node → ℕ → Option (List ℕ)
key_at properties index = option_and_then static_key (slice_get properties index)

-- no property before this index has this key
abbrev pub IsNoneBefore : List Node → ℕ → List ℕ → Type 0
IsNoneBefore properties index name =
    (smaller : ℕ) → smaller < index → key_at properties smaller ≢ Some name

-- the property with this index is a clause: its key is `with`, or is `assert` with no `with` before
abbrev pub IsAttributeClause : List Node → ℕ → Type 0
IsAttributeClause properties index =
    (key_at properties index ≡ Some (codes "with"))
    ⊎ ((key_at properties index ≡ Some (codes "assert"))
    × IsNoneBefore properties index (codes "with"))

-- the value of no clause is unknown, and these are the attributes of the last clause
pub record IsOfLastClause (properties : List Node) (result : ImportAttributes) : Type 0 where
  pub known : (index : ℕ) → IsAttributeClause properties index
      → ¬ (AreAttributesAt properties index attributes.Unknown)
  pub greatest : ℕ
  pub is_clause : IsAttributeClause properties greatest
  pub none_greater : (greater : ℕ) → greatest < greater → ¬ (IsAttributeClause properties greater)
  pub given : AreAttributesAt properties greatest result

-- the attributes of a call by the properties of its second argument: none without a clause, unknown
-- if the value of a clause is, and otherwise those of the last clause
abbrev pub AreClauseAttributes : List Node → ImportAttributes → Type 0
AreClauseAttributes properties attributes.None = (index : ℕ) → ¬ (IsAttributeClause properties index)
AreClauseAttributes properties attributes.Unknown =
    (index : ℕ) × (IsAttributeClause properties index)
    × (AreAttributesAt properties index attributes.Unknown)
AreClauseAttributes properties (attributes.Known entries) =
    IsOfLastClause properties (attributes.Known entries)

-- the attributes of a call with this second argument: unknown unless the argument is an object
-- literal with static keys only, and is not spread
abbrev pub AreCallAttributes : Option (Arg × Node) → ImportAttributes → Type 0
AreCallAttributes None result = result ≡ attributes.None
AreCallAttributes (Some second) result =
    MatchBool (not second.0.spread && is_object (kind_of second.1) && has_static_keys second.1)
    (AreClauseAttributes (children_of second.1) result)
    (result ≡ attributes.Unknown)
