-- Datas inside a document.
use Rattle.std.specs.Prelude.{ℕ, List, codes, Option, None, ◌==◌, if◌then◌else◌}
use Rattle.serde_json.specs.Data.{Data, Items}
use Rattle.serde_json.specs.Find.{as_array, as_object, get_member}
use Rattle.deno_graph_json.specs.Read.Partial.{◌>>=◌, as_usize, member_at}

-- The member of this name.
unfoldable pub member_of : List ℕ → Data → Option Data
member_of name value = do
  members ← as_object value
  get_member name members

-- The items of the array that is the member of this name.
unfoldable pub member_items : List ℕ → Data → Option Items
member_items name value = do
  found ← member_of name value
  as_array found

-- The comments of an entry, `None` where the entry has another position.
unfoldable pub entry_items : ℕ → Data → Option Items
entry_items position value = do
  members ← as_object value
  found ← member_at as_usize (codes "pos") members
  if found == position then member_at as_array (codes "comments") members else None
