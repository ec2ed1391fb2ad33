-- String literals in the tree of a text, each held against the text.
use Rattle.std.specs.Prelude.{ℕ, List, codes, Bool, not, ◌||◌, Option, Some, None, if◌then◌else◌}
use Rattle.serde_json.specs.Data.{Data}
use Rattle.serde_json.specs.Find.{as_object}
use Rattle.deno_graph_base.specs.SourceRange.{slice_of}
use Rattle.deno_graph_base.specs.declared.text.position.SourceRange.{SourceRange}
use Rattle.deno_graph_json.specs.Read.Partial.{◌>>=◌, member_at}
use Rattle.deno_graph_source.specs.declared.tree.node.StrLit.{StrLit}
use Rattle.modinfo_document.specs.Literal.{reads_string}
use Rattle.modinfo_literals.specs.Value.{is_spelled}
use Rattle.modinfo_estree.specs.Member.{reads_range}
use Rattle.modinfo_estree.specs.Offsets.{Counted}
use Rattle.modinfo_estree.specs.Range.{is_text_range}
use Rattle.modinfo_estree.specs.Source.{byte_in}

-- Whether a string literal with this range may have this value: the text has a string literal of the value
-- there, or no such range, which a check of the source reports.
unfoldable pub may_spell : List ℕ → SourceRange → List ℕ → Bool
may_spell text range value = not (is_text_range text range) || is_spelled (slice_of text range) value

-- The value that was read, if the text may spell it.
unfoldable pub if_spelled : List ℕ → SourceRange → List ℕ → Option (List ℕ)
if_spelled text range value = if may_spell text range value then Some value else None

module _ (counted : Counted) where
  -- A string literal, whose member `value` is its value.
  unfoldable pub reads_literal : Data → Option StrLit
  reads_literal value = do
    members ← as_object value
    range ← reads_range (byte_in counted) members
    found ← member_at reads_string (codes "value") members
    spelled ← if_spelled counted.text range found
    Some (record { value = spelled; range = range })
