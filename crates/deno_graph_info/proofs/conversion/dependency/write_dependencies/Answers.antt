use Rattle.std.proofs.Common.{Ok, Some, None, ap}
use Rattle.json.specs.Token.{begin_array, end_array}
use Rattle.serde_json.specs.Written.{has_float, items_have_float}
use Rattle.deno_graph_json.proofs.ArrayElements.{elements_next}
use Rattle.deno_graph_json.proofs.Texts.{text_written}
use Rattle.deno_graph_json.specs.Data.{data_of, elements_data}
use Rattle.deno_graph_json.specs.Text.{text_in}
use Rattle.deno_graph_info.proofs.ConvertedItems.{converted_all, converted_next, converted_none}
use Rattle.deno_graph_info.proofs.ConvertedItems.{overflow_next}
use Rattle.deno_graph_info.proofs.TextFaults.{exits_text, float_next}
use Rattle.deno_graph_info.specs.Conversion.{AnyOverflows, DependencyOverflows}
use Rattle.deno_graph_info.proofs.conversion.dependency.write_dependencies.Goals as goal

pub loop-dependency-init : goal.loop-dependency-init
loop-dependency-init c = (
  tt,
  tt,
  converted_none (elements_data c.args.dependencies)
      (elements_data c.into_iter-dependency-iterator.result) (text_in c.begin_array.new.self)
      (ap elements_data c.into_iter-dependency-iterator.ensures.into_iter_gives),
)

pub loop-dependency-preserved : goal.loop-dependency-preserved
loop-dependency-preserved c =
    let first = elements_next c.loop-dependency.dependency-iterator c.next.new.self
    (Some c.in-Some.dependency) c.in-Some.ensures.steps in
    let one = c.in_ok-write_dependency.ensures.ok in (
      tt,
      tt,
      converted_next (elements_data c.args.dependencies)
          (elements_data c.loop-dependency.dependency-iterator) (elements_data c.next.new.self)
          (data_of c.in-Some.dependency) (text_in c.begin_array.new.self) (text_in c.loop-dependency.out)
          c.loop-dependency.invariant.2 first one.0 (text_in c.write_dependency.new.out) one.1 one.2,
    )

pub returns-in_err-write_dependency-clause-err : goal.returns-in_err-write_dependency-clause-err
returns-in_err-write_dependency-clause-err c =
    let all = elements_data c.args.dependencies in
    let d = data_of c.in-Some.dependency in
    let first = elements_next c.loop-dependency.dependency-iterator c.next.new.self
    (Some c.in-Some.dependency) c.in-Some.ensures.steps in
    let left = elements_data c.loop-dependency.dependency-iterator in
    let rest = elements_data c.next.new.self in
    let begun = text_in c.begin_array.new.self in
    let now = text_in c.loop-dependency.out in
    exits_text (DependencyOverflows d) (AnyOverflows all) (has_float d) (items_have_float all) _ _
    (overflow_next all left rest d begun now c.loop-dependency.invariant.2 first)
    (float_next all left rest d begun now c.loop-dependency.invariant.2 first)
    c.from_residual-in_err-write_dependency.ensures.1 c.in_err-write_dependency.ensures.err

pub returns-clause-ok : goal.returns-clause-ok
returns-clause-ok c =
    let none = elements_next c.loop-dependency.dependency-iterator c.next.new.self None
    c.in-None.ensures.steps in
    let opens = text_written
    (Ok c.in_ok-begin_array.field-0) c.args.out.now c.begin_array.new.self begin_array
    c.in_ok-begin_array.ensures in
    let closes = text_written (Ok c.in_ok-end_array.field-0) c.loop-dependency.out c.end_array.new.self
    end_array c.in_ok-end_array.ensures in
    converted_all (elements_data c.args.dependencies) (elements_data c.loop-dependency.dependency-iterator)
    (text_in c.args.out.now) (text_in c.begin_array.new.self) (text_in c.loop-dependency.out)
    (text_in c.end_array.new.self) c.loop-dependency.invariant.2 none opens closes
