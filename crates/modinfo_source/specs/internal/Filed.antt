-- Filing one comment after others.
use Rattle.std.specs.Prelude.{◌≡◌, ℕ, List, [], ◌∷◌, ◌++◌}
use Rattle.std.specs.List.Sorted.{IsPermutation}
use Rattle.deno_graph_source.specs.Comments.{FiledComments, comments_of, leading_at}
use Rattle.modinfo_pieces.specs.declared.filed.FiledComment.{FiledComment}
use Rattle.modinfo_source.specs.Comments.{comment_of, comments_that, leads_at, trailing_at, trails_at}

-- A comment was filed after the others at its position.
pub record Files (text : List ℕ) (filed : FiledComment) (old new : FiledComments) : Type 0 where
  pub all : IsPermutation (comment_of text filed.comment ∷ comments_of old) (comments_of new)
  pub leading : (position : ℕ) → leading_at new position
      ≡ leading_at old position ++ comments_that (leads_at position) text (filed ∷ [])
  pub trailing : (position : ℕ) → trailing_at new position
      ≡ trailing_at old position ++ comments_that (trails_at position) text (filed ∷ [])
