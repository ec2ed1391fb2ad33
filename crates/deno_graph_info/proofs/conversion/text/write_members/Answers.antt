use Rattle.std.proofs.Common.{[], ◌∷◌, Ok, None, Some, ap, codes, refl, sym, subst, ◌∙◌}
use Rattle.json.specs.Token.{begin_object, end_object, key}
use Rattle.serde_json.specs.Data.{array, put}
use Rattle.deno_graph_json.proofs.Texts.{text_written, with_tokens-twice}
use Rattle.deno_graph_json.specs.Data.{members_data}
use Rattle.deno_graph_json.specs.Text.{text_in, text_tokens, with_tokens}
use Rattle.deno_graph_info.specs.internal.Chosen.{chosen}
use Rattle.deno_graph_info.specs.internal.Ordered.{ordered_data}
use Rattle.deno_graph_info.proofs.ChosenMembers.{Ascend, Ascend-members_data, around, kept_all}
use Rattle.deno_graph_info.proofs.WrittenText.{joined_written, members_object}
use Rattle.deno_graph_info.proofs.conversion.text.write_members.Goals as goal

pub returns-clause-ok : goal.returns-clause-ok
returns-clause-ok c =
    let ms = ordered_data c.in_ok-ordered.ordered in
    let made = c.in_ok-write_dependencies.ensures.ok in
    let json = array made.0 in
    let name = codes "dependencies" in
    let ordered = c.in_ok-ordered.ensures in
    let all = put name json (members_data c.args.members) in
    let begun = text_in c.begin_object.new.self in
    let before = text_in c.write_chosen.new.out in
    let inside = text_in c.write_chosen-2.new.out in
    let opens = text_written (Ok c.in_ok-begin_object.field-0) c.args.out.now c.begin_object.new.self
    begin_object c.in_ok-begin_object.ensures in
    let named = text_written (Ok c.in_ok-key.field-0) c.write_chosen.new.out c.key.new.self (key name)
    c.in_ok-key.ensures in
    let closes = text_written (Ok c.in_ok-end_object.field-0) c.write_chosen-2.new.out c.end_object.new.self
    end_object c.in_ok-end_object.ensures in
    let is = around name None json refl ms (subst Ascend (sym ordered) (Ascend-members_data c.args.members))
    ∙ kept_all (put name json ms) ∙ ap (put name json) ordered in
    let value = made.2.0 ∙ ap (with_tokens (text_tokens json)) named
    ∙ with_tokens-twice (key name ∷ []) (text_tokens json) before in
    let written = joined_written name json
    (chosen (record { above = None; below = Some name; except = None }) ms)
    (chosen (record { above = Some name; below = None; except = None }) ms) all begun before
    (text_in c.write_dependencies.new.out) inside c.in_ok-write_chosen.ensures.ok value made.2.1
    c.in_ok-write_chosen-2.ensures.ok is in (
      made.0,
      made.1,
      members_object all (text_in c.args.out.now) begun inside (text_in c.end_object.new.self)
          written opens closes,
    )
