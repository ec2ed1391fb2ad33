-- Positions and ranges written to and read from JSON: arrays of exactly two.
use Rattle.std.specs.Prelude.{Option, Some, ◌<◌, ◌^◌}
use Rattle.serde_json.specs.Data.{Data, number, unsigned, array, item, no_items}
use Rattle.deno_graph_base.specs.declared.text.position.Position.{Position}
use Rattle.deno_graph_base.specs.declared.text.position.PositionRange.{PositionRange}
use Rattle.deno_graph_json.specs.Read.Partial.{◌>>=◌, as_usize, reads_pair}

abbrev pair : Data → Data → Data
pair a b = array (item a (item b no_items))

-- `[line,character]`
abbrev pub json_of_position : Position → Data
json_of_position p = pair (number (unsigned p.line)) (number (unsigned p.character))

-- `[start,end]`
abbrev pub json_of_range : PositionRange → Data
json_of_range r = pair (json_of_position r.start) (json_of_position r.end)

-- what holds of each position that exists at run time: its numbers fit a `usize`
abbrev pub IsHeldPosition : Position → Type 0
IsHeldPosition p = (p.line < 2 ^ 64) × (p.character < 2 ^ 64)

abbrev pub IsHeldRange : PositionRange → Type 0
IsHeldRange r = IsHeldPosition r.start × IsHeldPosition r.end

-- `[line,character]`
unfoldable pub reads_position : Data → Option Position
reads_position d = do
  (line, character) ← reads_pair as_usize d
  Some (record { line = line; character = character })

-- `[start,end]`
unfoldable pub reads_range : Data → Option PositionRange
reads_range d = do
  (start, end) ← reads_pair reads_position d
  Some (record { start = start; end = end })
