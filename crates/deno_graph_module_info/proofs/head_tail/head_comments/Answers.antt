use Rattle.std.proofs.Common.{sym, ap, ◌∙◌}
use Rattle.std.specs.Option.{option_copied}
use Rattle.deno_graph_source.specs.Node.{range_of}
use Rattle.deno_graph_module_info.specs.HeadTail.{comments_before_items}
use Rattle.deno_graph_module_info.proofs.head_tail.head_comments.Goals as goal

pub returns-in-Some : goal.returns-in-Some
unfolding range_of
returns-in-Some c =
    c.leading_comments.ensures
    ∙ ap (λ item. comments_before_items item c.args.program.now c.args.comments.now)
    (ap option_copied (sym c.in-Some.is) ∙ c.first.ensures)
