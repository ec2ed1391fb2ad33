-- A parsed module as a value.
use Rattle.std.specs.Prelude.{ℕ, Bool, true, List}
use Rattle.url.specs.Parts.{Parts}
use Rattle.deno_graph_source.specs.Comments.{FiledComments}
use Rattle.deno_graph_source.specs.declared.tree.media_type.MediaType.{MediaType}
use Rattle.deno_graph_source.specs.declared.tree.node.Program.{Program}

-- a parsed module: its URL, its text, its kind of file, its tree and comments, and whether it has the
-- mark of scope analysis
pub record ParsedModule : Type 0 where
  pub specifier : Parts
  pub text : List ℕ
  pub media_type : MediaType
  pub program : Program
  pub comments : FiledComments
  pub scope_analysis : Bool

-- the module with the mark of scope analysis
abbrev pub marked : ParsedModule → ParsedModule
marked source = record source { scope_analysis = true }
