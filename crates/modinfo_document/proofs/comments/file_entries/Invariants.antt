-- The entries so far were filed, and the others are left.
use Rattle.std.proofs.Common.{◌≡◌, List, ◌++◌}
use Rattle.modinfo_document.specs.declared.comments.FiledEntry.{FiledEntry}
use Rattle.modinfo_document.specs.internal.Comments.{AreAppendedOn}
use Rattle.modinfo_document.proofs.comments.file_entries.Given as goal

abbrev pub invariant-loop-entry : goal.invariant-loop-entry
invariant-loop-entry l = (filed : List FiledEntry)
    × (l.initial.entry-iterator.rest.items ≡ filed ++ l.entry-iterator.rest.items)
    × AreAppendedOn l.fn.side l.fn.comments l.comments filed
