use Rattle.std.proofs.Common.{◌≡◌, sym, subst}
use Rattle.deno_graph_pragmas.specs.Split.{TextPart}
use Rattle.deno_graph_module_info.specs.Pragma.{specifier_of_part}
use Rattle.deno_graph_module_info.specs.internal.HeadPragma.{Covers}
use Rattle.deno_graph_module_info.proofs.InSource.{in_source, same_specifier}
use Rattle.deno_graph_module_info.proofs.specifier.specifier_with_range.Goals as goal

pub comment_source_to_position_range-requires-clause-range :
    goal.comment_source_to_position_range-requires-clause-range
comment_source_to_position_range-requires-clause-range c =
    let part : TextPart =
    record { text = c.args.text.now; start = c.args.range.start; end = c.args.range.end } in
    (in_source c.args.text_info.now c.args.comment.now part c.args.is_quoteless c.requires.spelled
    c.requires.slice c.requires.quoted).range

pub comment_source_to_position_range-requires-clause-inside :
    goal.comment_source_to_position_range-requires-clause-inside
comment_source_to_position_range-requires-clause-inside c =
    let part : TextPart =
    record { text = c.args.text.now; start = c.args.range.start; end = c.args.range.end } in
    (in_source c.args.text_info.now c.args.comment.now part c.args.is_quoteless c.requires.spelled
    c.requires.slice c.requires.quoted).inside

pub returns-clause-covers : goal.returns-clause-covers
returns-clause-covers c =
    let part : TextPart =
    record { text = c.args.text.now; start = c.args.range.start; end = c.args.range.end } in
    let covers = (in_source c.args.text_info.now c.args.comment.now part c.args.is_quoteless
    c.requires.spelled c.requires.slice c.requires.quoted).covers in
    let same : specifier_of_part c.args.text_info.now c.args.comment.now part c.args.is_quoteless
    ≡ record { text = c.in_ok-from_str.field-0; range = c.comment_source_to_position_range.result } =
    same_specifier _ _ (sym c.in_ok-from_str.ensures) (sym c.comment_source_to_position_range.ensures) in
    subst (Covers c.args.text_info.now c.args.is_quoteless) same covers
