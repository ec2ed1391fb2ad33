-- Comments and program of a document.
use Rattle.std.specs.Prelude.{List, codes, Option, Some}
use Rattle.serde_json.specs.Data.{Members}
use Rattle.deno_graph_base.specs.declared.text.position.SourceRange.{SourceRange}
use Rattle.deno_graph_json.specs.Read.Partial.{◌>>=◌, member_at}
use Rattle.deno_graph_source.specs.declared.tree.node.Program.{Program}
use Rattle.modinfo_document.specs.Comments.{Sides}
use Rattle.modinfo_estree.specs.Document.{reads_file, tree_of}
use Rattle.modinfo_estree.specs.Source.{source_of}
use Rattle.modinfo_estree.specs.declared.source.Source.{Source}

-- The program of a source, and the comments at some ranges.
unfoldable pub reads_tree_in : Source → List SourceRange → Members → Option (Sides × Program)
reads_tree_in source ranges members = do
  body ← member_at (reads_file (source_of source)) (codes "program") members
  Some (tree_of source.text.now source.tokens ranges body)
