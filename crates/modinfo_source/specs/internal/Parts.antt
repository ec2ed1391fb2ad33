-- Parts of templates.
use Rattle.std.specs.Prelude.{List, ℕ, map, IfSome}
use Rattle.deno_graph_base.specs.declared.text.position.SourceRange.{SourceRange}
use Rattle.modinfo_source.specs.Spelled.{CooksAt}
use Rattle.modinfo_source.specs.declared.tree.templates.Part.{Part}
use Rattle.modinfo_pieces.specs.declared.piece.Piece.{Piece}

-- a part that has a value has the cooked value that the text spells at its range
abbrev pub PartIsCooked : List ℕ → List Piece → Part → Type 0
PartIsCooked text pieces part = IfSome part.value (CooksAt text pieces part.range)

-- the ranges of parts
abbrev pub part_ranges : List Part → List SourceRange
part_ranges parts = map (λ part. part.range) parts
