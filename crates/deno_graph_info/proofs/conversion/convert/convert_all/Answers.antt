use Rattle.std.proofs.Common.{◌≡◌, ◌<◌, List, length, get_or, subst}
use Rattle.serde_json.specs.View.{view, items_view}
use Rattle.serde_json.specs.declared.value.Value.{Value}
use Rattle.deno_graph_info.proofs.Conversions.{converted_more, overflow_among}
use Rattle.deno_graph_info.proofs.Outcomes.{exits_column}
use Rattle.deno_graph_info.specs.Conversion.{DependencyOverflows, AnyOverflows}
use Rattle.deno_graph_info.proofs.conversion.convert.convert_all.Goals as goal

pub loop-dependency-preserved : goal.loop-dependency-preserved
loop-dependency-preserved c =
    let seen = c.deref-dependency-items.ensures.value in
    let at = c.loop-dependency.dependency-index in
    let old = c.dependency-item.result in
    converted_more c.args.dependencies.now.items c.loop-dependency.converted.items c.push.new.self.items at
    old c.in_ok-convert_dependency.field-0
    (subst (λ (vs : List Value). at < length vs) seen c.loop-dependency-test.true)
    (subst (λ (vs : List Value). old ≡ get_or vs at old) seen c.dependency-item.is)
    c.loop-dependency.invariant c.in_ok-convert_dependency.ensures.ok c.in_ok-push.ensures.items

pub returns-in_err-convert_dependency-clause-err : goal.returns-in_err-convert_dependency-clause-err
returns-in_err-convert_dependency-clause-err c =
    exits_column (DependencyOverflows (view c.dependency-item.result))
    (AnyOverflows (items_view c.args.dependencies.now.items)) _ _
    (λ h. subst (λ vs. AnyOverflows (items_view vs)) c.deref-dependency-items.ensures.value
    (overflow_among c.deref-dependency-items.result.now c.loop-dependency.dependency-index
    c.dependency-item.result c.loop-dependency-test.true c.dependency-item.is h))
    c.from_residual-in_err-convert_dependency.ensures.1 c.in_err-convert_dependency.ensures.err
