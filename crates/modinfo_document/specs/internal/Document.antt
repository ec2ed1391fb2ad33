-- Comments and program of a document.
use Rattle.std.specs.Prelude.{codes, Option, Some}
use Rattle.serde_json.specs.Data.{Members}
use Rattle.deno_graph_json.specs.Read.Partial.{◌>>=◌, member_at}
use Rattle.deno_graph_source.specs.declared.tree.node.Program.{Program}
use Rattle.modinfo_document.specs.Comments.{Sides, reads_sides}
use Rattle.modinfo_document.specs.Node.{reads_program}

-- The entries of the comments, and the program.
unfoldable pub reads_tree : Members → Option (Sides × Program)
reads_tree members = do
  comments ← reads_sides members
  program ← member_at reads_program (codes "program") members
  Some (comments, program)
