-- Pieces that a tree claims to have, and marks, what the tree says of some tokens. Both are in the order of
-- the text: each is taken away where the text has it.
use Rattle.std.specs.Prelude.{◌==◌, Bool, true, false, ◌&&◌, List, [], ◌∷◌, Option, Some, None, drop}
use Rattle.std.specs.Prelude.{if◌then◌else◌}
use Rattle.modinfo_imports.specs.declared.claims.Form.{Form}
use Rattle.modinfo_imports.specs.declared.claims.Mark.{Mark}
use Rattle.modinfo_pieces.specs.declared.piece.Piece.{Piece}
use Rattle.modinfo_pieces.specs.declared.piece.PieceKind.{PieceKind}
use Rattle.modinfo_pieces.specs.declared.piece.PieceKind.TheVariants.{Punctuation, String, Template, Word}

-- Two kinds are the same, one that may be claimed.
abbrev pub is_same_kind : PieceKind → PieceKind → Bool
is_same_kind Word Word = true
is_same_kind String String = true
is_same_kind Template Template = true
is_same_kind Punctuation Punctuation = true
is_same_kind _ _ = false

-- Two pieces are the same.
abbrev pub is_same : Piece → Piece → Bool
is_same piece other =
    (piece.start == other.start) && ((piece.end == other.end) && is_same_kind piece.kind other.kind)

-- A piece is the first of the claims.
abbrev pub is_claimed : Piece → List Piece → Bool
is_claimed piece [] = false
is_claimed piece (claim ∷ _) = is_same piece claim

-- The claims after a piece.
abbrev pub claims_after : Piece → List Piece → List Piece
claims_after piece claims = (if is_claimed piece claims then drop 1 claims else claims)

-- What the first of the marks says of a token, if the mark is that token's.
abbrev pub form_of : Piece → List Mark → Option Form
form_of piece [] = None
form_of piece (mark ∷ _) = (if piece.start == mark.start then Some mark.form else None)

-- The marks after a token.
abbrev pub marks_after : Piece → List Mark → List Mark
marks_after piece [] = []
marks_after piece (mark ∷ marks) = (if piece.start == mark.start then marks else mark ∷ marks)
