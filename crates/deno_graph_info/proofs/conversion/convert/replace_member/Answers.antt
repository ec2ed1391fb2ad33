use Rattle.std.proofs.Common.{◌≡◌, IsSome, string_bytes, sym, ap, subst, ◌∙◌}
use Rattle.serde_json.proofs.Views.{view-Object}
use Rattle.serde_json.specs.Data.{object}
use Rattle.serde_json.specs.Find.{get}
use Rattle.serde_json.specs.View.{view, members_view}
use Rattle.deno_graph_json.proofs.Reading.{is_object}
use Rattle.deno_graph_info.proofs.Conversions.{put_present}
use Rattle.deno_graph_info.specs.Conversion.{with_value_at}
use Rattle.deno_graph_info.proofs.conversion.convert.replace_member.Goals as goal

pub returns-in-Some : goal.returns-in-Some
returns-in-Some c =
    let key = string_bytes c.args.key in
    let old = c.in-Some.members.now.entries in
    let is : view c.args.value.now ≡ object (members_view old) =
    is_object (view c.args.value.now) (members_view old) (sym c.in-Some.ensures.value) in
    view-Object c.insert.new.self
    ∙ ap object (put_present c.insert.result old c.insert.new.self.entries c.args.key c.args.member
    (subst (λ d. IsSome (get key d)) is c.requires) c.insert.ensures.entries c.insert.ensures.absent)
    ∙ ap (with_value_at key (view c.args.member)) (sym is)
