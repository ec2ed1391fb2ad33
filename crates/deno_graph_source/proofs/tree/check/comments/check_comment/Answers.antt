use Rattle.std.proofs.Common.{[], ap, ◌∙◌, sym}
use Rattle.std.proofs.lemmas.Bool.Decides.{Decides-eqb}
use Rattle.std.proofs.lemmas.List.Elements.{All-head}
use Rattle.std.proofs.lemmas.Slice.Eq.{slice_eq-Decides}
use Rattle.deno_graph_source.proofs.Judgements.{returned, range_fault_in_comment, Any-only}
use Rattle.deno_graph_source.proofs.Spelling.{spelling-injective}
use Rattle.deno_graph_source.specs.FaultPlace.{CommentHas, RangeHas}
use Rattle.deno_graph_source.specs.Source.{spelling}
use Rattle.deno_graph_base.specs.SourceRange.{IsTextRange}
use Rattle.deno_graph_source.proofs.tree.check.comments.check_comment.Goals as goal

pub returns-in_err-check_range : goal.returns-in_err-check_range
returns-in_err-check_range c =
    let text = c.args.text.now in
    let comment = c.args.comment.now in
    let here = Any-only (RangeHas text c.in_err-check_range.field-0.0) comment.range
    c.in_err-check_range.ensures in
    returned _ (λ fault. CommentHas text fault comment) _ _ c.from_residual.ensures.1
    (range_fault_in_comment text _ comment here)

pub returns-in-Some : goal.returns-in-Some
returns-in-Some c =
    let comment = c.args.comment.now in
    let same = (slice_eq-Decides Decides-eqb _ _ _ c.eq.ensures).0 c.if-eq.true ∙ c.as_str.ensures in
    record {
      range = All-head (IsTextRange c.args.text.now) comment.range [] c.in_ok-check_range.ensures;
      slice = sym c.range-written.ensures.value ∙ c.in-Some.ensures ∙ ap (spelling comment.kind) same;
    }

pub returns-in_default : goal.returns-in_default
returns-in_default c = λ is.
    let comment = c.args.comment.now in
    let same = spelling-injective comment.kind c.in-Some.inside.now comment.text
    (sym c.in-Some.ensures ∙ c.range-written.ensures.value ∙ is.slice) in
    let equal = (slice_eq-Decides Decides-eqb _ _ _ c.eq.ensures).1 (same ∙ sym c.as_str.ensures) in
    cc (equal, c.if-eq.false)
