use Rattle.std.proofs.lemmas.List.Sorted.{IsPermutation-refl}
use Rattle.deno_graph_source.specs.Comments.{comments_of}
use Rattle.deno_graph_source.proofs.tree.comments.Comments.iter_unstable.Goals as goal

pub returns : goal.returns
unfolding comments_of
returns c = rw (
  c.in_ok-push_items-2.ensures,
  c.in_ok-push_items.ensures,
  c.new-all.ensures.items,
  ← c.self.view_is,
) (IsPermutation-refl _)
