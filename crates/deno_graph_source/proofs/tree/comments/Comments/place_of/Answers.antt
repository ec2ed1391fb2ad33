use Rattle.std.proofs.Common.{sym, subst}
use Rattle.std.specs.List.{Contains}
use Rattle.deno_graph_source.specs.Comments.{comments_of}
use Rattle.deno_graph_source.specs.contracts.tree.comments.DependencyCommentEq.TheImpl.Laws.{laws-law}
use Rattle.deno_graph_source.proofs.FiledComments.{equals_none}
use Rattle.deno_graph_source.proofs.tree.comments.Comments.place_of.Goals as goal

pub unreachable-requires : goal.unreachable-requires
unreachable-requires c =
    let comment = c.args.comment.now in
    let inside = c.self.inside in
    equals_none _ laws-law record { leading = inside.leading; trailing = inside.trailing } comment
    c.in_default.ensures c.in-None.ensures
    (subst (λ comments. Contains (comments_of comments) comment) (sym c.self.view_is) c.requires)
