-- What is written of a resolution mode has no float.
use Rattle.std.proofs.Common.{◌≡◌, false, Option, Some, None, option_map, refl}
use Rattle.deno_graph_base.specs.declared.values.resolution_mode.TypeScriptTypesResolutionMode.{TypeScriptTypesResolutionMode}
use Rattle.deno_graph_base.specs.declared.values.resolution_mode.TypeScriptTypesResolutionMode.TheVariants.{Require}
use Rattle.deno_graph_base.specs.declared.values.resolution_mode.TypeScriptTypesResolutionMode.TheVariants.{Import}
use Rattle.deno_graph_json.specs.Json.ResolutionMode.{json_of_mode}
use Rattle.deno_graph_json.proofs.NoFloats.{option_has_float}

pub mode_no_float : (o : Option TypeScriptTypesResolutionMode)
    → option_has_float (option_map json_of_mode o) ≡ false
mode_no_float None = refl
mode_no_float (Some Require) = refl
mode_no_float (Some Import) = refl
