-- The values so far are those of the parts so far.
use Rattle.std.proofs.Common.{List, ℕ, ◌≡◌, ◌++◌}
use Rattle.std.specs.List.{All}
use Rattle.modinfo_pieces.specs.declared.piece.Piece.{Piece}
use Rattle.modinfo_source.specs.Spelled.{CookEach}
use Rattle.modinfo_source.specs.internal.Parts.{PartIsCooked, part_ranges}
use Rattle.modinfo_source.proofs.tree.templates.values_of.Given as goal

abbrev pub invariant-loop-part : goal.invariant-loop-part
invariant-loop-part l =
    (l.fn.parts.items ≡ l.yielded ++ l.part-iterator.rest.items)
    × ((text : List ℕ) (pieces : List Piece) → All (PartIsCooked text pieces) l.fn.parts.items
    → CookEach text pieces (part_ranges l.yielded) l.values)
