-- A comment that is filed for a range with an error is none that the text has.
use Rattle.std.proofs.Common.{◌≡◌, ◌≢◌, ℕ, Bool, true, false, List, [], drop, take}
use Rattle.std.proofs.Common.{length, if◌then◌else◌, ◌-◌, refl, ap, sym, subst, ◌∙◌, true≢false}
use Rattle.deno_graph_base.specs.SourceRange.{slice_of}
use Rattle.deno_graph_base.specs.declared.text.position.SourceRange.{SourceRange}
use Rattle.deno_graph_source.specs.Source.{IsSpelled}
use Rattle.deno_graph_source.specs.declared.tree.comments.CommentKind.TheVariants.{Line, Block}
use Rattle.deno_graph_source.specs.declared.tree.comments.DependencyComment.{DependencyComment}
use Rattle.modinfo_estree.specs.CommentError.{IsCommentError, begins_block, begins_line}
use Rattle.modinfo_estree.specs.Comments.{block_text, comment_at_range, comment_of, comment_with}
use Rattle.modinfo_estree.specs.Comments.{is_whole_block, is_whole_line, line_comment}
use Rattle.modinfo_estree.specs.Range.{is_text_range}
use Rattle.modinfo_estree.specs.declared.comment_error.CommentError.{CommentError}
use Rattle.modinfo_estree.specs.declared.comment_error.CommentError.TheVariants.{Range, Start, LineEnd}
use Rattle.modinfo_estree.specs.declared.comment_error.CommentError.TheVariants.{BlockEnd, OutOfMemory}
use Rattle.modinfo_estree.proofs.CommentReading.{range_test}

module _ (text : List ℕ) (range : SourceRange) where
  outside : is_text_range text range ≡ false → comment_at_range text range ≡ comment_with Line range []
  unfolding comment_at_range
  outside is =
      ap (λ t. if t then comment_of text range (slice_of text range) else comment_with Line range []) is

  inside : is_text_range text range ≡ true
      → comment_at_range text range ≡ comment_of text range (slice_of text range)
  unfolding comment_at_range
  inside is =
      ap (λ t. if t then comment_of text range (slice_of text range) else comment_with Line range []) is

  module _ (bytes : List ℕ) where
    abbrev block : Bool → DependencyComment
    block begins = if begins then comment_with Block range (block_text (drop 2 bytes))
        else comment_with Line range []

    as_block : begins_line bytes ≡ false → comment_of text range bytes ≡ block (begins_block bytes)
    unfolding comment_of
    as_block line =
        ap (λ t. if t then line_comment text range (drop 2 bytes) else block (begins_block bytes)) line

    without_start : begins_line bytes ≡ false → begins_block bytes ≡ false
        → comment_of text range bytes ≡ comment_with Line range []
    without_start line other = as_block line ∙ ap block other

    part_of_line : begins_line bytes ≡ true → is_whole_line text range ≡ false
        → comment_of text range bytes ≡ comment_with Block range []
    unfolding comment_of
    part_of_line line part =
        ap (λ t. if t then line_comment text range (drop 2 bytes) else block (begins_block bytes)) line
        ∙ ap (λ t. if t then comment_with Line range (drop 2 bytes) else comment_with Block range []) part

    part_of_block : begins_line bytes ≡ false → begins_block bytes ≡ true
        → is_whole_block (drop 2 bytes) ≡ false → comment_of text range bytes ≡ comment_with Block range []
    part_of_block line begins part =
        let rest = drop 2 bytes in
        as_block line ∙ ap block begins
        ∙ ap (λ t. comment_with Block range (if t then take (length rest - 2) rest else [])) part

  pub not_spelled : (error : CommentError) → error ≢ OutOfMemory → IsCommentError text range error
      → ¬ IsSpelled text (comment_at_range text range)
  not_spelled Range known is spelled =
      let filed = subst (IsSpelled text) (outside is) spelled in
      true≢false (sym (range_test text range filed.range) ∙ is)
  not_spelled Start known is spelled =
      let read = without_start (slice_of text range) is.1.0 is.1.1 in
      let filed = subst (IsSpelled text) (inside is.0 ∙ read) spelled in
      true≢false (sym (ap begins_line filed.slice) ∙ is.1.0)
  not_spelled LineEnd known is spelled =
      let read = part_of_line (slice_of text range) is.1.0 is.1.1 in
      let filed = subst (IsSpelled text) (inside is.0 ∙ read) spelled in
      true≢false (sym is.1.0 ∙ ap begins_line filed.slice)
  not_spelled BlockEnd known is spelled =
      let read = part_of_block (slice_of text range) is.1.0 is.1.1 is.1.2 in
      let filed = subst (IsSpelled text) (inside is.0 ∙ read) spelled in
      true≢false (sym (ap (λ bytes. is_whole_block (drop 2 bytes)) filed.slice) ∙ is.1.2)
  not_spelled OutOfMemory known is spelled = known refl
