use Rattle.std.proofs.Common.{◌≡◌, ◌||◌, Some, None, sym, ◌∙◌}
use Rattle.std.proofs.lemmas.Result.{on_ok_weaker}
use Rattle.serde_json.specs.Written.{has_float, items_have_float, members_have_float}
use Rattle.deno_graph_json.specs.Data.{data_of, elements_data, members_data}
use Rattle.deno_graph_info.specs.Conversion.{AnyOverflows, Overflows, dependencies_in}
use Rattle.deno_graph_info.proofs.ConvertedTexts.{converted_object, overflows_object, unconverted}
use Rattle.deno_graph_json.proofs.Reading.{is_object}
use Rattle.deno_graph_info.proofs.NamedMembers.{dependencies_among, no_dependencies}
use Rattle.deno_graph_info.proofs.TextFaults.{float_in_object, text_error-on}
use Rattle.deno_graph_info.proofs.conversion.text.write_converted.Goals as goal

-- The value is no object.
pub returns-in_default-clause-ok : goal.returns-in_default-clause-ok
returns-in_default-clause-ok c =
    let d = data_of c.args.value in
    on_ok_weaker c.write_value.result
    (λ written. (d, unconverted d (no_dependencies d (sym c.in_default.ensures.json)), written))
    c.write_value.ensures.ok

-- The object has no dependencies.
pub returns-in-None-clause-ok : goal.returns-in-None-clause-ok
returns-in-None-clause-ok c =
    let d = data_of c.args.value in
    let none : dependencies_in d ≡ None =
    dependencies_among d (members_data c.in-Some.members) (sym c.in-Some.ensures.json)
    ∙ sym c.in-None.ensures in
    on_ok_weaker c.write_value-in-None.result (λ written. (d, unconverted d none, written))
    c.write_value-in-None.ensures.ok

pub returns-in-Some-array_at-clause-ok : goal.returns-in-Some-array_at-clause-ok
returns-in-Some-array_at-clause-ok c =
    let d = data_of c.args.value in
    let ms = members_data c.in-Some.members in
    let old = elements_data c.in-Some-array_at.dependencies in
    let object = sym c.in-Some.ensures.json in
    let some : dependencies_in d ≡ Some old =
    dependencies_among d ms object ∙ sym c.in-Some-array_at.ensures in
    on_ok_weaker c.write_members.result
    (λ made. (_, converted_object d ms old made.0 (is_object d ms object) some made.1, made.2))
    c.write_members.ensures.ok

pub returns-in-Some-array_at-clause-err : goal.returns-in-Some-array_at-clause-err
returns-in-Some-array_at-clause-err c =
    let d = data_of c.args.value in
    let ms = members_data c.in-Some.members in
    let old = elements_data c.in-Some-array_at.dependencies in
    let object = sym c.in-Some.ensures.json in
    let some : dependencies_in d ≡ Some old =
    dependencies_among d ms object ∙ sym c.in-Some-array_at.ensures in
    text_error-on (AnyOverflows old) (Overflows d) (items_have_float old || members_have_float ms)
    (has_float d) c.write_members.result (overflows_object d old some)
    (float_in_object d ms old (is_object d ms object) (sym c.in-Some-array_at.ensures))
    c.write_members.ensures.err
