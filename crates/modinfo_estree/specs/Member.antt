-- The members of a node that aren't nodes.
use Rattle.std.specs.Prelude.{ℕ, List, codes, bytes_eq, Bool, true, false, Option, Some, None, is_some}
use Rattle.std.specs.Prelude.{nat_lt, unwrap_or, if◌then◌else◌}
use Rattle.serde_json.specs.Data.{Data, null, Members}
use Rattle.serde_json.specs.Events.{items_len}
use Rattle.serde_json.specs.Find.{as_array, as_bool, as_object, as_str, get_member}
use Rattle.deno_graph_base.specs.declared.text.position.SourceRange.{SourceRange}
use Rattle.deno_graph_json.specs.Read.Partial.{◌>>=◌, as_usize, member_at, reads_pair}

-- The text of a member that is a string.
abbrev pub text_at : List ℕ → Members → Option (List ℕ)
text_at name members = get_member name members >>= as_str

-- The type of a node: nodes are the objects whose member `type` is a string.
abbrev pub type_of : Data → Option (List ℕ)
type_of value = as_object value >>= text_at (codes "type")

-- Whether a member is this string.
abbrev pub is_text : List ℕ → Option (List ℕ) → Bool
is_text text None = false
is_text text (Some found) = bytes_eq found text

abbrev pub has_text : List ℕ → List ℕ → Members → Bool
has_text name text members = is_text text (text_at name members)

-- Whether a member is true.
abbrev pub is_true : List ℕ → Members → Bool
is_true name members = unwrap_or (get_member name members >>= as_bool) false

-- Whether a member is an array with an item.
abbrev pub has_items : List ℕ → Members → Bool
has_items name members = is_some (do
  found ← get_member name members
  items ← as_array found
  if nat_lt 0 (items_len items) then Some items else None)

-- Whether a member is a node of this type.
abbrev pub has_type : List ℕ → List ℕ → Members → Bool
has_type name type members = is_text type (get_member name members >>= type_of)

-- The name of the identifier that a member is.
abbrev pub name_at : List ℕ → Members → Option (List ℕ)
name_at member members = get_member member members >>= as_object >>= text_at (codes "name")

-- Whether a member is an identifier of this name.
abbrev pub has_name : List ℕ → List ℕ → Members → Bool
has_name member name members = is_text name (name_at member members)

-- Whether a value is there, and not null.
abbrev pub is_given : Option Data → Bool
is_given None = false
is_given (Some null) = false
is_given (Some _) = true

abbrev pub is_present : List ℕ → Members → Bool
is_present name members = is_given (get_member name members)

-- Ranges in the tree of a text, whose offsets in bytes are given by `byte_of`.
module _ (byte_of : ℕ → ℕ) where
  -- The range between two offsets of the tree.
  abbrev pub range_between : ℕ → ℕ → SourceRange
  range_between start end = record { start = byte_of start; end = byte_of end }

  -- `"range":[START,END]`.
  unfoldable pub reads_pair_range : Data → Option SourceRange
  reads_pair_range value = do
    (start, end) ← reads_pair as_usize value
    Some (range_between start end)

  -- `"start":START,"end":END`.
  unfoldable pub reads_start_and_end : Members → Option SourceRange
  reads_start_and_end members = do
    start ← member_at as_usize (codes "start") members
    end ← member_at as_usize (codes "end") members
    Some (range_between start end)

  -- The range by the member `range` if there is one.
  abbrev pub range_or : Members → Option Data → Option SourceRange
  range_or ms None = reads_start_and_end ms
  range_or ms (Some value) = reads_pair_range value

  -- The range of a node or comment: `range`, or `start` and `end`.
  abbrev pub reads_range : Members → Option SourceRange
  reads_range members = range_or members (get_member (codes "range") members)
