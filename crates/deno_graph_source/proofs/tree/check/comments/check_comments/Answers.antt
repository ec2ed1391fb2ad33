use Rattle.std.proofs.lemmas.List.{take_all}
use Rattle.std.proofs.lemmas.List.Elements.{All-more, All-map}
use Rattle.deno_graph_source.specs.Source.{IsSpelled}
use Rattle.deno_graph_source.proofs.tree.check.comments.check_comments.Goals as goal

pub loop-comment-preserved : goal.loop-comment-preserved
loop-comment-preserved c =
    let text = c.args.text.now in
    All-more (λ comment. IsSpelled text comment.now) _ _ c.comment-item.result c.loop-comment-test.true
    c.loop-comment.invariant (rw (← c.comment-item.is) c.in_default.ensures)

pub returns : goal.returns
returns c =
    let text = c.args.text.now in
    let all = rw (take_all _ _ c.loop-comment-test.false) at c.loop-comment.invariant in
    All-map (IsSpelled text) (λ comment. comment.now) _ all
