-- Import attributes, written to and read from JSON.
use Rattle.std.specs.Prelude.{[], ◌∷◌, codes, Some, ℕ, List, ◌==◌, bytes_eq, Option, None, if◌then◌else◌}
use Rattle.serde_json.specs.Data.{Data, null, string, boolean, number, array, object, Members}
use Rattle.serde_json.specs.Events.{members_len}
use Rattle.deno_graph_base.specs.TextMap.{IsAscending}
use Rattle.deno_graph_info.specs.declared.analysis.import_attributes.ImportAttribute.{ImportAttribute}
use Rattle.deno_graph_info.specs.declared.analysis.import_attributes.ImportAttribute.TheVariants.{Unknown as UnknownValue}
use Rattle.deno_graph_info.specs.declared.analysis.import_attributes.ImportAttribute.TheVariants.{Known as KnownValue}
use Rattle.deno_graph_info.specs.declared.analysis.import_attributes.ImportAttributes.{ImportAttributes}
use Rattle.deno_graph_info.specs.declared.analysis.import_attributes.ImportAttributes.TheVariants.{None as NoAttributes}
use Rattle.deno_graph_info.specs.declared.analysis.import_attributes.ImportAttributes.TheVariants.{Unknown}
use Rattle.deno_graph_info.specs.declared.analysis.import_attributes.ImportAttributes.TheVariants.{Known}
use Rattle.deno_graph_json.specs.Object.{Entry, object_of, map_object_of}
use Rattle.deno_graph_json.specs.Read.Partial.{◌>>=◌, member_at, reads_map}

-- a known value as a string, an unknown value as null
abbrev pub json_of_attribute : ImportAttribute → Data
json_of_attribute UnknownValue = null
json_of_attribute (KnownValue value) = string value

-- known attributes: the member `known`, an object with a member for each
abbrev pub known_entries : List (List ℕ × ImportAttribute) → List Entry
known_entries entries = (codes "known", Some (map_object_of json_of_attribute entries)) ∷ []

-- `"none"`, `"unknown"`, or `{"known":{..}}`
abbrev pub json_of_attributes : ImportAttributes → Data
json_of_attributes NoAttributes = string (codes "none")
json_of_attributes Unknown = string (codes "unknown")
json_of_attributes (Known entries) = object_of (known_entries entries)

-- what holds of all attributes that exist at run time: the keys of known attributes ascend
abbrev pub AreHeldAttributes : ImportAttributes → Type 0
AreHeldAttributes NoAttributes = Unit {0}
AreHeldAttributes Unknown = Unit {0}
AreHeldAttributes (Known entries) = IsAscending entries

-- a string, or null for an unknown value
unfoldable pub reads_attribute : Data → Option ImportAttribute
reads_attribute null = Some UnknownValue
reads_attribute (boolean b) = None
reads_attribute (number n) = None
reads_attribute (string s) = Some (KnownValue s)
reads_attribute (array ds) = None
reads_attribute (object ms) = None

-- `none` or `unknown`
unfoldable pub attributes_named : List ℕ → Option ImportAttributes
attributes_named name =
    if bytes_eq name (codes "none") then Some NoAttributes
    else if bytes_eq name (codes "unknown") then Some Unknown
    else None

-- `{"known":{..}}`, with no other member
unfoldable pub known_attributes : Members → Option ImportAttributes
known_attributes ms =
    if members_len ms == 1
    then (do
      entries ← member_at (reads_map reads_attribute) (codes "known") ms
      Some (Known entries))
    else None

-- `"none"`, `"unknown"` or `{"known":{..}}`
unfoldable pub reads_attributes : Data → Option ImportAttributes
reads_attributes null = None
reads_attributes (boolean b) = None
reads_attributes (number n) = None
reads_attributes (string s) = attributes_named s
reads_attributes (array ds) = None
reads_attributes (object ms) = known_attributes ms
