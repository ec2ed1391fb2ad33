-- What is written of import attributes is read back, and has no float.
use Rattle.std.proofs.Common.{◌≡◌, [], ◌∷◌, false, codes, Some, refl}
use Rattle.serde_json.specs.Written.{has_float}
use Rattle.deno_graph_info.specs.declared.analysis.import_attributes.ImportAttribute.{ImportAttribute}
use Rattle.deno_graph_info.specs.declared.analysis.import_attributes.ImportAttribute.TheVariants.{Unknown as UnknownValue}
use Rattle.deno_graph_info.specs.declared.analysis.import_attributes.ImportAttribute.TheVariants.{Known as KnownValue}
use Rattle.deno_graph_info.specs.declared.analysis.import_attributes.ImportAttributes.{ImportAttributes}
use Rattle.deno_graph_info.specs.declared.analysis.import_attributes.ImportAttributes.TheVariants.{None as NoAttributes}
use Rattle.deno_graph_info.specs.declared.analysis.import_attributes.ImportAttributes.TheVariants.{Unknown}
use Rattle.deno_graph_info.specs.declared.analysis.import_attributes.ImportAttributes.TheVariants.{Known}
use Rattle.deno_graph_json.specs.Object.{unless, map_object_of}
use Rattle.deno_graph_info.specs.ImportAttributes.{is_none}
use Rattle.deno_graph_info.specs.Json.ImportAttributes.{json_of_attribute, json_of_attributes}
use Rattle.deno_graph_info.specs.Json.ImportAttributes.{AreHeldAttributes, reads_attribute, reads_attributes}
use Rattle.deno_graph_info.specs.Json.ImportAttributes.{attributes_named, known_attributes}
use Rattle.deno_graph_json.specs.Read.Partial.{read_or, member_at}
use Rattle.deno_graph_json.proofs.NoFloats.{option_has_float, neither, no_float-object_of}
use Rattle.deno_graph_json.proofs.NoFloats.{no_float-map_object_of}
use Rattle.deno_graph_json.proofs.ReadBack.{reads_map-map_object_of}
use Rattle.deno_graph_json.proofs.Reading.{goes_on}

attribute_back : (a : ImportAttribute) → reads_attribute (json_of_attribute a) ≡ Some a
unfolding reads_attribute
attribute_back UnknownValue = refl
attribute_back (KnownValue text) = refl

-- `importAttributes`, which is left out if there are none
pub attributes_back : (a : ImportAttributes) → AreHeldAttributes a
    → read_or reads_attributes NoAttributes (unless (is_none a) (json_of_attributes a)) ≡ Some a
unfolding reads_attributes attributes_named known_attributes member_at
attributes_back NoAttributes h = refl
attributes_back Unknown h = refl
attributes_back (Known entries) h =
    goes_on _ _ entries _ (reads_map-map_object_of reads_attribute json_of_attribute (λ a. Unit {0})
    (λ a _. attribute_back a) entries h (λ k e _. tt)) refl

attribute_no_float : (a : ImportAttribute) → has_float (json_of_attribute a) ≡ false
attribute_no_float UnknownValue = refl
attribute_no_float (KnownValue text) = refl

pub attributes_no_float : (a : ImportAttributes)
    → option_has_float (unless (is_none a) (json_of_attributes a)) ≡ false
attributes_no_float NoAttributes = refl
attributes_no_float Unknown = refl
attributes_no_float (Known entries) =
    no_float-object_of ((codes "known", Some (map_object_of json_of_attribute entries)) ∷ [])
    (neither _ _ (no_float-map_object_of json_of_attribute attribute_no_float entries) refl)
