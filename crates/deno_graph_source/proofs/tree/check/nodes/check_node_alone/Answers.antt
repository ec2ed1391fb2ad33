use Rattle.std.proofs.Common.{sym, subst}
use Rattle.std.proofs.lemmas.List.Elements.{All-append, All-cons, All-map}
use Rattle.deno_graph_source.proofs.Judgements.{returned}
use Rattle.deno_graph_source.specs.FaultPlace.{PartHas}
use Rattle.deno_graph_source.specs.Node.{kind_of, range_of}
use Rattle.deno_graph_base.specs.SourceRange.{IsTextRange}
use Rattle.deno_graph_source.proofs.tree.check.nodes.check_node_alone.Goals as goal

pub returns-in_err-check_part : goal.returns-in_err-check_part
unfolding range_of
returns-in_err-check_part c =
    let text = c.args.text.now in
    let node = c.args.node.now in
    let found = c.in_err-check_part.field-0.0 in
    returned _ (λ found. PartHas text found.fault node found.part) _ _ c.from_residual.ensures.1
    (subst (λ part. PartHas text found.fault node part) (sym c.in_err-check_part.ensures.0)
    c.in_err-check_part.ensures.1)

pub returns-in-None : goal.returns-in-None
unfolding range_of kind_of
returns-in-None c =
    let text = c.args.text.now in
    let node = c.args.node.now in
    let args = rw c.args-2.ensures at c.in_ok-check_args.ensures in (
      All-cons (IsTextRange text) (range_of node) _ c.in_ok-check_part.ensures
          (All-append (IsTextRange text) _ _
          (All-map (IsTextRange text) (λ literal. literal.range) _ c.in_ok-check_literal.ensures)
          (All-map (IsTextRange text) (λ arg. arg.range) _ args)),
      c.in-None.ensures,
    )
