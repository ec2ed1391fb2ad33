use Rattle.std.proofs.lemmas.Result.{on_ok_weaker}
use Rattle.deno_graph_source.proofs.AddedItems.{added_second}
use Rattle.deno_graph_source.specs.Comments.{comments_of}
use Rattle.deno_graph_source.proofs.tree.comments.Comments.add_trailing.Goals as goal

pub returns-clause-all : goal.returns-clause-all
unfolding comments_of
returns-clause-all c =
    on_ok_weaker c.add.result (λ adds. rw (← c.self.view_is)
    (added_second c.args.comment c.self.inside.leading c.self.inside.trailing _ c.args.pos adds))
    c.add.ensures.ok
