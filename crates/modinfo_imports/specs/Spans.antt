-- Pieces and bytes at given places of a text.
use Rattle.std.specs.Prelude.{ℕ, ◌+◌, ◌&&◌, List, [], if◌then◌else◌, length, nat_le, nat_lt, slice_range}
use Rattle.deno_graph_base.specs.declared.text.position.SourceRange.{SourceRange}
use Rattle.modinfo_pieces.specs.Comments.{has_bytes}
use Rattle.modinfo_pieces.specs.declared.piece.Piece.{Piece}
use Rattle.modinfo_pieces.specs.declared.piece.PieceKind.{PieceKind}
use Rattle.modinfo_pieces.specs.declared.piece.PieceKind.TheVariants.{Word}

-- The piece of a kind at a range.
abbrev pub piece_at : PieceKind → SourceRange → Piece
piece_at kind range = record { kind = kind; start = range.start; end = range.end }

-- No text has this piece, since it is empty.
abbrev pub no_piece : ℕ → Piece
no_piece at = record { kind = Word; start = at; end = at }

-- The word at an offset is this one: `import`.
abbrev pub word_claim : List ℕ → ℕ → List ℕ → Piece
word_claim text at word =
    (if has_bytes text at word then record { kind = Word; start = at; end = at + length word }
    else no_piece at)

-- The bytes at a range, none if the text has no such range.
abbrev pub bytes_at : List ℕ → SourceRange → List ℕ
bytes_at text range =
    (if nat_lt range.start range.end && nat_le range.end (length text)
    then slice_range text range.start range.end else [])
