-- Import attributes, as far as they are known.
use Rattle.std.specs.Prelude.{◌≡◌, ◌⊎◌, ℕ, List, Bool, true, false, codes, Option, Some, None}
use Rattle.std.specs.Prelude.{option_and_then}
use Rattle.deno_graph_base.specs.TextMap.{value_at}
use Rattle.deno_graph_info.specs.declared.analysis.import_attributes.ImportAttribute.{ImportAttribute}
use Rattle.deno_graph_info.specs.declared.analysis.import_attributes.ImportAttribute.TheVariants.{Unknown as UnknownValue}
use Rattle.deno_graph_info.specs.declared.analysis.import_attributes.ImportAttribute.TheVariants.{Known as KnownValue}
use Rattle.deno_graph_info.specs.declared.analysis.import_attributes.ImportAttributes.{ImportAttributes}
use Rattle.deno_graph_info.specs.declared.analysis.import_attributes.ImportAttributes.TheVariants.{None as NoAttributes}
use Rattle.deno_graph_info.specs.declared.analysis.import_attributes.ImportAttributes.TheVariants.{Unknown}
use Rattle.deno_graph_info.specs.declared.analysis.import_attributes.ImportAttributes.TheVariants.{Known}

-- whether the dependency has none
abbrev pub is_none : ImportAttributes → Bool
is_none NoAttributes = true
is_none Unknown = false
is_none (Known entries) = false

-- the value, if it is known
abbrev pub known_value : ImportAttribute → Option (List ℕ)
known_value UnknownValue = None
known_value (KnownValue text) = Some text

-- the value at a key, if the keys and the value are known
abbrev pub attribute_at : ImportAttributes → List ℕ → Option (List ℕ)
attribute_at NoAttributes key = None
attribute_at Unknown key = None
attribute_at (Known entries) key = option_and_then known_value (value_at entries key)

-- the type of an asset: `text`, `bytes` or `css`
abbrev pub IsAssetType : Option (List ℕ) → Type 0
IsAssetType type =
    (type ≡ Some (codes "text")) ⊎ (type ≡ Some (codes "bytes")) ⊎ (type ≡ Some (codes "css"))
