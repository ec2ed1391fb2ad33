use Rattle.std.proofs.Common.{◌≡◌, ◌+◌, ◌-◌, get_or, map, ◌∙◌, ap, sym, subst, arith}
use Rattle.std.proofs.lemmas.List.{get_or-map, length-map}
use Rattle.deno_graph_source.proofs.Neighbours.{AllAdjacentBelow-map, differs}
use Rattle.deno_graph_source.specs.internal.Check.{Passes}
use Rattle.deno_graph_source.proofs.tree.check.comments.check_neighbours.Goals as goal

pub returns-then-ne : goal.returns-then-ne
returns-then-ne c =
    let comments = c.args.comments.now in
    let i = c.loop-i.i in
    let next : i ≡ (i - 1) + 1 = omega arith in
    let before = c.index-comments-i.result in
    let after = c.index-comments-i-in-loop-i.result in
    record {
      at = i - 1;
      within = omega (arith, length-map comments (λ comment. comment.now));
      first = λ d. get_or-map (λ comment. comment.now) comments (i - 1) before d (omega arith)
          ∙ ap (λ comment. comment.now) (sym c.index-comments-i.is);
      second = λ d. subst (λ n. get_or (map (λ comment. comment.now) comments) n d ≡ after.now) next
          (get_or-map (λ comment. comment.now) comments i after d c.loop-i-test.true
          ∙ ap (λ comment. comment.now) (sym c.index-comments-i-in-loop-i.is));
      into = (differs before.now.range after.now.range c.if-ne.ensures, c.if-after-before.true);
    }

pub returns : goal.returns
returns c = AllAdjacentBelow-map (λ comment. comment.now) Passes c.args.comments.now
    (λ k below. c.loop-i.invariant k (omega arith))
