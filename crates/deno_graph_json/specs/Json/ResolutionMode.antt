-- A resolution mode written to and read from JSON: its name.
use Rattle.std.specs.Prelude.{ℕ, List, codes, Option}
use Rattle.serde_json.specs.Data.{Data, string}
use Rattle.serde_json.specs.Find.{as_str}
use Rattle.deno_graph_base.specs.declared.values.resolution_mode.TypeScriptTypesResolutionMode.{TypeScriptTypesResolutionMode}
use Rattle.deno_graph_base.specs.declared.values.resolution_mode.TypeScriptTypesResolutionMode.TheVariants.{Require}
use Rattle.deno_graph_base.specs.declared.values.resolution_mode.TypeScriptTypesResolutionMode.TheVariants.{Import}
use Rattle.deno_graph_base.specs.ResolutionMode.{mode_named}
use Rattle.deno_graph_json.specs.Read.Partial.{◌>>=◌}

abbrev pub mode_name : TypeScriptTypesResolutionMode → List ℕ
mode_name Require = codes "require"
mode_name Import = codes "import"

abbrev pub json_of_mode : TypeScriptTypesResolutionMode → Data
json_of_mode m = string (mode_name m)

-- the mode whose name the data are
unfoldable pub reads_mode : Data → Option TypeScriptTypesResolutionMode
reads_mode d = do
  name ← as_str d
  mode_named name
