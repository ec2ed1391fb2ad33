use Rattle.std.proofs.Common.{[], ◌∷◌, Ok, None, Some, ap, codes, refl, sym, subst, ◌∙◌}
use Rattle.json.specs.Token.{begin_object, end_object, key}
use Rattle.serde_json.specs.Data.{put}
use Rattle.deno_graph_json.proofs.Texts.{text_written, with_tokens-twice}
use Rattle.deno_graph_json.specs.Data.{members_data}
use Rattle.deno_graph_json.specs.Text.{text_in, text_tokens, with_tokens}
use Rattle.deno_graph_info.specs.Conversion.{without}
use Rattle.deno_graph_info.specs.Json.SpecifierWithRange.{json_of_specifier}
use Rattle.deno_graph_info.specs.internal.Chosen.{chosen}
use Rattle.deno_graph_info.specs.internal.Ordered.{ordered_data}
use Rattle.deno_graph_info.proofs.ChosenMembers.{Ascend, Ascend-members_data, around, kept_without}
use Rattle.deno_graph_info.proofs.TextFaults.{exits_ordered}
use Rattle.deno_graph_info.proofs.WrittenText.{joined_written, members_object, floatless_specifier}
use Rattle.deno_graph_info.proofs.conversion.dependency.write_typed.Goals as goal

pub returns-clause-ok : goal.returns-clause-ok
returns-clause-ok c =
    let ms = ordered_data c.in_ok-ordered.ordered in
    let json = json_of_specifier c.args.types.now in
    let types = codes "typesSpecifier" in
    let comments = codes "leadingComments" in
    let ordered = c.in_ok-ordered.ensures in
    let all = without comments (put types json (members_data c.args.members)) in
    let begun = text_in c.begin_object.new.self in
    let inside = text_in c.write_chosen-2.new.out in
    let opens = text_written (Ok c.in_ok-begin_object.field-0) c.args.out.now c.begin_object.new.self
    begin_object c.in_ok-begin_object.ensures in
    let keyed = text_written (Ok c.in_ok-key.field-0) c.write_chosen.new.out c.key.new.self (key types)
    c.in_ok-key.ensures in
    let typed = c.in_ok-append.ensures.ok ∙ ap (with_tokens (text_tokens json)) keyed
    ∙ with_tokens-twice (key types ∷ []) (text_tokens json) (text_in c.write_chosen.new.out) in
    let is = around types (Some comments) json refl ms
    (subst Ascend (sym ordered) (Ascend-members_data c.args.members))
    ∙ kept_without comments (put types json ms) ∙ ap (λ l. without comments (put types json l)) ordered in
    let written = joined_written types json
    (chosen (record { above = None; below = Some types; except = Some comments }) ms)
    (chosen (record { above = Some types; below = None; except = Some comments }) ms) all begun
    (text_in c.write_chosen.new.out) (text_in c.append.new.out) inside c.in_ok-write_chosen.ensures.ok
    typed (floatless_specifier c.args.types.now c.in_ok-append.ensures.held)
    c.in_ok-write_chosen-2.ensures.ok is in
    let closes = text_written (Ok c.in_ok-end_object.field-0) c.write_chosen-2.new.out c.end_object.new.self
    end_object c.in_ok-end_object.ensures in
    members_object all (text_in c.args.out.now) begun inside (text_in c.end_object.new.self) written opens
    closes

pub returns-in_err-write_chosen-clause-err : goal.returns-in_err-write_chosen-clause-err
returns-in_err-write_chosen-clause-err c =
    exits_ordered (ordered_data c.in_ok-ordered.ordered) (members_data c.args.members) _ _
    c.in_ok-ordered.ensures c.from_residual-in_err-write_chosen.ensures.1 c.in_err-write_chosen.ensures.err

pub returns-in_err-write_chosen-2-clause-err : goal.returns-in_err-write_chosen-2-clause-err
returns-in_err-write_chosen-2-clause-err c =
    exits_ordered (ordered_data c.in_ok-ordered.ordered) (members_data c.args.members) _ _
    c.in_ok-ordered.ensures c.from_residual-in_err-write_chosen-2.ensures.1
    c.in_err-write_chosen-2.ensures.err
