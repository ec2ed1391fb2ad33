use Rattle.std.proofs.Common.{None, Ok, Some, ap, codes, ◌∙◌}
use Rattle.json.specs.Token.{begin_object, end_object}
use Rattle.deno_graph_json.proofs.Texts.{text_written}
use Rattle.deno_graph_json.specs.Data.{members_data}
use Rattle.deno_graph_json.specs.Text.{text_in}
use Rattle.deno_graph_info.specs.Conversion.{without}
use Rattle.deno_graph_info.specs.internal.Ordered.{ordered_data}
use Rattle.deno_graph_info.proofs.ChosenMembers.{chosen_without}
use Rattle.deno_graph_info.proofs.TextFaults.{exits_ordered}
use Rattle.deno_graph_info.proofs.WrittenText.{chosen_object}
use Rattle.deno_graph_info.proofs.conversion.dependency.write_untyped.Goals as goal

pub returns-in_err-write_chosen-clause-err : goal.returns-in_err-write_chosen-clause-err
returns-in_err-write_chosen-clause-err c =
    exits_ordered (ordered_data c.in_ok-ordered.ordered) (members_data c.args.members) _ _
    c.in_ok-ordered.ensures c.from_residual-in_err-write_chosen.ensures.1 c.in_err-write_chosen.ensures.err

pub returns-clause-ok : goal.returns-clause-ok
returns-clause-ok c =
    let ms = ordered_data c.in_ok-ordered.ordered in
    let comments = codes "leadingComments" in
    let opens = text_written (Ok c.in_ok-begin_object.field-0) c.args.out.now c.begin_object.new.self
    begin_object c.in_ok-begin_object.ensures in
    let closes = text_written (Ok c.in_ok-end_object.field-0) c.write_chosen.new.out c.end_object.new.self
    end_object c.in_ok-end_object.ensures in
    chosen_object (record { above = None; below = None; except = Some comments }) ms
    (without comments (members_data c.args.members)) (text_in c.args.out.now)
    (text_in c.begin_object.new.self) (text_in c.write_chosen.new.out) (text_in c.end_object.new.self)
    c.in_ok-write_chosen.ensures.ok
    (chosen_without comments ms ∙ ap (without comments) c.in_ok-ordered.ensures) opens closes
