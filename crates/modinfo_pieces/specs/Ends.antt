-- Where a piece ends, by its kind. Each piece goes on as far as it can.
use Rattle.std.specs.Prelude.{◌≡◌, ℕ, ◌+◌, List, Option, Some, slice_index}
use Rattle.modinfo_pieces.specs.Comments.{block_close, block_step, line_step}
use Rattle.modinfo_pieces.specs.Jsx.{jsx_string_step, text_step}
use Rattle.modinfo_pieces.specs.Literals.{body_close, body_start, body_step, quote_close, string_step}
use Rattle.modinfo_pieces.specs.Literals.{template_close, template_step}
use Rattle.modinfo_pieces.specs.Spaces.{space_step}
use Rattle.modinfo_pieces.specs.Steps.{Closes}
use Rattle.modinfo_pieces.specs.Words.{word_step}
use Rattle.modinfo_pieces.specs.declared.piece.PieceKind.{PieceKind}
use Rattle.modinfo_pieces.specs.declared.piece.PieceKind.TheVariants.{BlockComment, Hashbang, HtmlComment}
use Rattle.modinfo_pieces.specs.declared.piece.PieceKind.TheVariants.{JsxString, JsxText, LineComment}
use Rattle.modinfo_pieces.specs.declared.piece.PieceKind.TheVariants.{Punctuation, RegularExpression, Space}
use Rattle.modinfo_pieces.specs.declared.piece.PieceKind.TheVariants.{String, Template, Word}

-- The piece of this kind at an offset has this end, or none.
abbrev pub HasEnd : List ℕ → ℕ → PieceKind → Option ℕ → Type 0
HasEnd text at Space end = Closes (space_step text) at Some end
HasEnd text at LineComment end = Closes (line_step text) (at + 2) Some end
HasEnd text at BlockComment end = Closes (block_step text) (at + 2) (block_close text) end
HasEnd text at HtmlComment end = Closes (line_step text) (at + 3) Some end
HasEnd text at Hashbang end = Closes (line_step text) (at + 2) Some end
HasEnd text at Word end = Closes (word_step text) at Some end
HasEnd text at String end =
    Closes (string_step (slice_index text at) text) (at + 1) (quote_close (slice_index text at) text) end
HasEnd text at Template end = Closes (template_step text) (at + 1) (template_close text) end
HasEnd text at RegularExpression end = Closes (body_step text) (body_start (at + 1)) (body_close text) end
HasEnd text at JsxText end = Closes (text_step text) at Some end
HasEnd text at JsxString end =
    Closes (jsx_string_step (slice_index text at) text) (at + 1) (quote_close (slice_index text at) text) end
HasEnd text at Punctuation end = end ≡ Some (at + 1)
