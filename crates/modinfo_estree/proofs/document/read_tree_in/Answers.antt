use Rattle.std.proofs.Common.{arith, refl, ap, subst, ◌∙◌}
use Rattle.deno_graph_json.proofs.Reading.{goes_on}
use Rattle.modinfo_document.specs.Comments.{AreThoseOf}
use Rattle.modinfo_document.proofs.Results.{reading_by, some_and}
use Rattle.modinfo_estree.specs.Comments.{comment_ranges, sides_of}
use Rattle.modinfo_estree.specs.Document.{is_empty, tree_of}
use Rattle.modinfo_estree.specs.ValueEnds.{value_ends}
use Rattle.modinfo_estree.specs.internal.Document.{reads_tree_in}
use Rattle.modinfo_estree.proofs.document.read_tree_in.Goals as goal

pub returns-in_err-body : goal.returns-in_err-body
unfolding reads_tree_in
returns-in_err-body c = grind (arith, reading_by)

pub returns : goal.returns
unfolding reads_tree_in
returns c =
    let source = c.args.source.now in
    let text = source.text.now in
    let body = c.in_ok-body.body in
    let ranges = c.args.ranges in
    let empty = c.is_empty-is_empty.ensures ∙ ap (is_empty text) c.as_slice.ensures in
    let kept = c.as_slice-3.ensures.value ∙ c.in_ok-kept.ensures in
    let ends = c.in_ok-ends.ensures ∙ ap (value_ends text) c.as_slice-2.ensures in
    let comments = subst (λ e. AreThoseOf
    (sides_of text source.tokens (value_ends text body) e (comment_ranges text ranges))
    c.in_ok-comments.comments)
    empty (subst (λ rs. AreThoseOf
    (sides_of text source.tokens (value_ends text body) c.is_empty-is_empty.result rs)
    c.in_ok-comments.comments) kept
    (subst (λ es. AreThoseOf
    (sides_of text source.tokens es c.is_empty-is_empty.result c.as_slice-3.result.now)
    c.in_ok-comments.comments) ends c.in_ok-comments.ensures)) in
    some_and _ _ (tree_of text source.tokens ranges body) (goes_on _ _ body _ c.in_ok-body.ensures refl)
    (comments, λ i. record { range = c.new-2.ensures i; body = body; has_shebang = c.has_shebang.ensures i })
