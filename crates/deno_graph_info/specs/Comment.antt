-- The comments that version 1 stores with a dependency.
use Rattle.std.specs.Prelude.{codes, Option, Some}
use Rattle.serde_json.specs.Data.{Data}
use Rattle.serde_json.specs.Find.{as_object, as_str}
use Rattle.deno_graph_json.specs.Read.Partial.{◌>>=◌, member_at}
use Rattle.deno_graph_json.specs.Json.Position.{reads_range}
use Rattle.deno_graph_info.specs.declared.conversion.comment.Comment.{Comment}

-- a readable comment: an object with the string `text` and the range `range`. Other members are ignored.
unfoldable pub reads_stored_comment : Data → Option Comment
reads_stored_comment d = do
  ms ← as_object d
  text ← member_at as_str (codes "text") ms
  range ← member_at reads_range (codes "range") ms
  Some (record { text = text; range = range })
