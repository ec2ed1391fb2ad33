use Rattle.std.proofs.Common.{sym, ◌∙◌}
use Rattle.serde_json.proofs.Views.{view-Array}
use Rattle.serde_json.specs.View.{view, items_view}
use Rattle.deno_graph_info.proofs.Conversions.{converted_at, dependencies_there, exits_among}
use Rattle.deno_graph_info.proofs.ConvertedTexts.{unconverted}
use Rattle.deno_graph_info.specs.Conversion.{with_value_at}
use Rattle.deno_graph_info.proofs.conversion.convert.module_graph_1_to_2.Goals as goal

pub returns-in_default-clause-ok : goal.returns-in_default-clause-ok
returns-in_default-clause-ok c = unconverted (view c.args.value.now) (sym c.in_default.ensures)

pub returns-in_err-converted-clause-err : goal.returns-in_err-converted-clause-err
returns-in_err-converted-clause-err c =
    exits_among (view c.args.value.now) (items_view c.in-Some.dependencies.now.items) _ _
    (sym c.has_float.ensures ∙ c.if-has_float.false) (sym c.in-Some.ensures) c.from_residual.ensures.1
    c.in_err-converted.ensures.err

pub replace_member-requires : goal.replace_member-requires
replace_member-requires c =
    dependencies_there _ (view c.args.value.now) (items_view c.in-Some.dependencies.now.items)
    c.in_ok-key.ensures.ok c.in-Some.ensures

pub returns-clause-ok : goal.returns-clause-ok
returns-clause-ok c =
    let new = c.in_ok-converted.converted in
    converted_at (view c.args.value.now) (view c.replace_member.new.value)
    (items_view c.in-Some.dependencies.now.items) (items_view new.items) (sym c.in-Some.ensures)
    c.in_ok-converted.ensures.ok
    (c.replace_member.ensures
    ∙ (λ i. with_value_at (c.in_ok-key.ensures.ok i) (view-Array new i) (view c.args.value.now)))
