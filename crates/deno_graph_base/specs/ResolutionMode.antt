-- Resolution modes by name.
use Rattle.std.specs.Prelude.{ℕ, List, Option, Some, None, codes, if◌then◌else◌}
use Rattle.std.specs.Str.{bytes_eq}
use Rattle.deno_graph_base.specs.declared.values.resolution_mode.ResolutionMode.{ResolutionMode}
use Rattle.deno_graph_base.specs.declared.values.resolution_mode.ResolutionMode.TheVariants as graph
use Rattle.deno_graph_base.specs.declared.values.resolution_mode.TypeScriptTypesResolutionMode.{TypeScriptTypesResolutionMode}
use Rattle.deno_graph_base.specs.declared.values.resolution_mode.TypeScriptTypesResolutionMode.TheVariants.{Require}
use Rattle.deno_graph_base.specs.declared.values.resolution_mode.TypeScriptTypesResolutionMode.TheVariants.{Import}

-- the mode with this name, in UTF-8: `None` if no mode has the name
abbrev pub mode_named : List ℕ → Option TypeScriptTypesResolutionMode
mode_named name =
    if bytes_eq name (codes "import") then Some Import else
    (if bytes_eq name (codes "require") then Some Require else None)

-- the mode of a module graph with the same name
abbrev pub graph_mode : TypeScriptTypesResolutionMode → ResolutionMode
graph_mode Require = graph.Require
graph_mode Import = graph.Import
