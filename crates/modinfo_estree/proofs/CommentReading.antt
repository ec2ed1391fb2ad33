-- Comments that a text has are read from it.
use Rattle.std.proofs.Common.{◌≡◌, ℕ, ◌-◌, ◌≤◌, ◌&&◌, true, false, not, inl, inr, eqb, codes, if◌then◌else◌}
use Rattle.std.proofs.Common.{List, [], ◌++◌, length, take, drop, get_or, refl, ap, ◌∙◌, arith, length-append}
use Rattle.std.proofs.lemmas.Bool.{cases_lt, le-leb}
use Rattle.std.proofs.lemmas.Bool.Decides.{nat_tests}
use Rattle.std.proofs.lemmas.List.{drop_at, get_or_past, take_at}
use Rattle.std.specs.Fmt.{is_char_start}
use Rattle.std.specs.Cmp.Lexicographic.{pointwise}
use Rattle.std.specs.Str.{IsCharBoundary}
use Rattle.deno_graph_base.specs.SourceRange.{IsTextRange, slice_of}
use Rattle.deno_graph_base.specs.declared.text.position.SourceRange.{SourceRange}
use Rattle.deno_graph_source.specs.Source.{IsSpelled, spelling}
use Rattle.deno_graph_source.specs.declared.tree.comments.CommentKind.{CommentKind}
use Rattle.deno_graph_source.specs.declared.tree.comments.CommentKind.TheVariants.{Line, Block}
use Rattle.deno_graph_source.specs.declared.tree.comments.DependencyComment.{DependencyComment}
use Rattle.modinfo_estree.specs.Comments.{IsWhole, block_text, comment_at_range, comment_of, comment_with}
use Rattle.modinfo_estree.specs.Comments.{has_close, is_line, is_whole_line}
use Rattle.modinfo_estree.specs.Range.{is_boundary, is_text_range}

start_of_char : (b : ℕ) → (128 ≤ b → 192 ≤ b) → is_char_start b ≡ true
start_of_char b lead = elim (cases_lt b 128) [
  | inl low ↦ grind (arith, nat_tests)
  | inr high ↦ let at : 192 ≤ b = lead high in grind (arith, nat_tests)
]

boundary_test : (text : List ℕ) (at : ℕ) → IsCharBoundary text at → is_boundary text at ≡ true
boundary_test text at boundary =
    ap (λ t. t && is_char_start (get_or text at 0)) (le-leb at (length text) boundary.0)
    ∙ elim (cases_lt at (length text)) [
      | inl within ↦ start_of_char (get_or text at 0) (boundary.1 within)
      | inr after ↦ ap is_char_start (get_or_past text at 0 after)
    ]

pub range_test : (text : List ℕ) (range : SourceRange) → IsTextRange text range
    → is_text_range text range ≡ true
range_test text range is =
    ap (λ t. (t && is_boundary text range.start) && is_boundary text range.end)
    (le-leb range.start range.end is.ordered)
    ∙ ap (λ t. t && is_boundary text range.end) (boundary_test text range.start is.start)
    ∙ boundary_test text range.end is.end

inside_block : (text : List ℕ) → has_close text ≡ false → block_text (text ++ codes "*/") ≡ text
inside_block text unclosed =
    let rest = text ++ codes "*/" in
    let size : length rest - 2 ≡ length text = omega (arith, length-append text (codes "*/")) in
    ap (λ n. if pointwise eqb (codes "*/") (drop n rest) && not (has_close (take n rest)) then take n rest
    else [])
    size
    ∙ ap (λ end. if pointwise eqb (codes "*/") end && not (has_close (take (length text) rest))
    then take (length text) rest else [])
    (drop_at text (codes "*/") (length text) refl)
    ∙ ap (λ inside. if not (has_close inside) then inside else [])
    (take_at text (codes "*/") (length text) refl)
    ∙ ap (λ is. if not is then text else []) unclosed

spelled_read : (source : List ℕ) (kind : CommentKind) (range : SourceRange) (text : List ℕ)
    → (is_line kind ≡ true → is_whole_line source range ≡ true)
    → (is_line kind ≡ false → has_close text ≡ false)
    → comment_of source range (spelling kind text) ≡ comment_with kind range text
unfolding comment_of
spelled_read source Line range text line block =
    ap (λ is. if is then comment_with Line range text else comment_with Block range []) (line refl)
spelled_read source Block range text line block =
    ap (λ inside. comment_with Block range inside) (inside_block text (block refl))

pub comment_read : (text : List ℕ) (comment : DependencyComment) → IsSpelled text comment
    → IsWhole text comment → comment_at_range text comment.range ≡ comment
unfolding comment_at_range
comment_read text comment spelled whole =
    let range = comment.range in
    let bytes = slice_of text range in
    ap (λ t. if t then comment_of text range bytes else comment_with Line range [])
    (range_test text range spelled.range)
    ∙ ap (comment_of text range) spelled.slice
    ∙ spelled_read text comment.kind range comment.text whole.0 whole.1
