-- The comments at a position are among all filed comments, and so have their text in the source.
use Rattle.std.proofs.Common.{ap, sym, ◌∙◌}
use Rattle.std.specs.Option.{option_copied}
use Rattle.deno_graph_source.specs.Comments.{comments_of}
use Rattle.deno_graph_source.specs.Source.{IsSpelled}
use Rattle.deno_graph_source.proofs.Lists.{All-within}
use Rattle.deno_graph_source.proofs.ValidSource.{Contains-leading}
use Rattle.test_replay.proofs.calls.parts.types_before.Goals as goal

pub analyze_ts_or_deno_types-requires : goal.analyze_ts_or_deno_types-requires
analyze_ts_or_deno_types-requires c =
    let comments = c.args.comments.now in
    let leading = c.in-Some.leading.now in
    All-within (IsSpelled c.args.text_info.now) (comments_of comments) leading
    (λ comment there. Contains-leading comments c.args.pos leading comment
    (sym c.get_leading.ensures ∙ ap option_copied c.in-Some.is) there) c.requires.spelled
