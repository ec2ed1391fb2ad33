use Rattle.std.specs.Prelude.{◌≡◌, ◌+◌, List, Some, slice_get}
use Rattle.serde_json.specs.Events.{items_len}
use Rattle.deno_graph_json.specs.Data.{elements_data}
use Rattle.deno_graph_json.specs.Read.Partial.{reads_items}
use Rattle.deno_graph_json.proofs.ArrayElements.{AreFrom}
use Rattle.modinfo_document.specs.declared.comments.FiledEntry.{FiledEntry}
use Rattle.modinfo_document.specs.Comments.{comments_at, reads_entry}
use Rattle.modinfo_document.proofs.lookup.comment_in.Given as goal

abbrev pub invariant-loop-entry : goal.invariant-loop-entry
invariant-loop-entry l = (goal.iterator-loop-entry).can_next l.entry-iterator
    × (goal.iterator-loop-entry).is_finite l.entry-iterator
    × ((all : List FiledEntry) → reads_items reads_entry (elements_data l.fn.entries) ≡ Some all
    → (rest : List FiledEntry) × (reads_items reads_entry (elements_data l.entry-iterator) ≡ Some rest)
    × (slice_get (comments_at l.fn.position all) l.fn.number ≡ slice_get
    (comments_at l.fn.position rest) l.left))
    × AreFrom l.passed (elements_data l.fn.entries) (elements_data l.entry-iterator)
    × (l.passed + items_len (elements_data l.entry-iterator) ≡ items_len (elements_data l.fn.entries))
