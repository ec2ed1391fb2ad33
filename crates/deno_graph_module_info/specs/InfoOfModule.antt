-- The `ModuleInfo` of a source, with all its properties.
use Rattle.std.specs.Prelude.{ℕ, List}
use Rattle.deno_graph_source.specs.Comments.{FiledComments}
use Rattle.deno_graph_source.specs.ParsedSource.{ParsedModule}
use Rattle.deno_graph_source.specs.declared.tree.media_type.MediaType.{MediaType}
use Rattle.deno_graph_source.specs.declared.tree.node.Program.{Program}
use Rattle.deno_graph_info.specs.declared.analysis.module_info.ModuleInfo.{ModuleInfo}
use Rattle.deno_graph_module_info.specs.ModuleInfo.{HasExactRanges, IsModuleInfo}
use Rattle.deno_graph_module_info.specs.SpelledDependencies.{SpellDependencies}

-- the info is the `ModuleInfo` of the source, the ranges of its specifiers are exact, and its arguments
-- spell the texts of their expressions
pub record IsInfoOfSource (text : List ℕ) (media_type : MediaType) (program : Program)
    (comments : FiledComments) (info : ModuleInfo) : Type 0 where
  pub is : IsModuleInfo text media_type program comments info
  pub ranges : HasExactRanges text info
  pub spells : SpellDependencies program.body info.dependencies

-- the info is that of the parsed module
abbrev pub IsInfoOfModule : ParsedModule → ModuleInfo → Type 0
IsInfoOfModule module_ info =
    IsInfoOfSource module_.text module_.media_type module_.program module_.comments info
