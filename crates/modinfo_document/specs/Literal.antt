-- Ranges, strings and string literals of a module document.
use Rattle.std.specs.Prelude.{ℕ, List, codes, Option, Some, None, nat_lt, if◌then◌else◌}
use Rattle.std.specs.Str.{chars}
use Rattle.serde_json.specs.Data.{Data, null, boolean, number, string, array, object, Items}
use Rattle.serde_json.specs.Find.{as_object}
use Rattle.deno_graph_base.specs.declared.text.position.SourceRange.{SourceRange}
use Rattle.deno_graph_base.specs.JsString.{points_of_units}
use Rattle.deno_graph_json.specs.Read.Partial.{◌>>=◌, as_usize, member_at, reads_items, reads_pair}
use Rattle.deno_graph_source.specs.declared.tree.node.StrLit.{StrLit}

-- `[START,END]`: two offsets, in bytes.
unfoldable pub reads_source_range : Data → Option SourceRange
reads_source_range value = do
  (start, end) ← reads_pair as_usize value
  Some (record { start = start; end = end })

-- A UTF-16 code unit.
unfoldable pub reads_unit : Data → Option ℕ
reads_unit value = do
  unit ← as_usize value
  if nat_lt unit 65536 then Some unit else None

-- The code points of UTF-16 code units.
unfoldable pub reads_units : Items → Option (List ℕ)
reads_units values = do
  units ← reads_items reads_unit values
  Some (points_of_units units)

-- The code points of a JavaScript string, which is a JSON string or an array of UTF-16 code units.
unfoldable pub reads_string : Data → Option (List ℕ)
reads_string null = None
reads_string (boolean _) = None
reads_string (number _) = None
reads_string (string text) = Some (chars text)
reads_string (array values) = reads_units values
reads_string (object _) = None

-- `{"value":STRING,"range":[START,END]}`.
unfoldable pub reads_literal : Data → Option StrLit
reads_literal value = do
  members ← as_object value
  range ← member_at reads_source_range (codes "range") members
  text ← member_at reads_string (codes "value") members
  Some (record { value = text; range = range })
