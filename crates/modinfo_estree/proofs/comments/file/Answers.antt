use Rattle.std.proofs.Common.{◌≡◌}
use Rattle.deno_graph_source.specs.ByOffset.{AddsItem}
use Rattle.modinfo_estree.specs.internal.Comments.{IsFiled}
use Rattle.modinfo_estree.proofs.Filings.{filed_leading, filed_trailing, on_both}
use Rattle.modinfo_estree.proofs.comments.file.Goals as goal

pub returns-in-Leading : goal.returns-in-Leading
returns-in-Leading c =
    let old = c.args.comments.now in
    let new = c.add_leading.new.self in
    let place = c.args.place in
    on_both c.add_leading.result (AddsItem old.leading new.leading place.position c.args.comment)
    (new.trailing ≡ old.trailing) (IsFiled place c.args.comment old new)
    c.add_leading.ensures.leading c.add_leading.ensures.trailing
    (λ added other. filed_leading place c.args.comment old new c.in-Leading.is added other
    c.add_leading.ensures.ascending)

pub returns-in-Trailing : goal.returns-in-Trailing
returns-in-Trailing c =
    let old = c.args.comments.now in
    let new = c.add_trailing.new.self in
    let place = c.args.place in
    on_both c.add_trailing.result (AddsItem old.trailing new.trailing place.position c.args.comment)
    (new.leading ≡ old.leading) (IsFiled place c.args.comment old new)
    c.add_trailing.ensures.trailing c.add_trailing.ensures.leading
    (λ added other. filed_trailing place c.args.comment old new c.in-Trailing.is added other
    c.add_trailing.ensures.ascending)
