use Rattle.std.proofs.Common.{◌≡◌, None, sym, ap, ◌∙◌}
use Rattle.std.specs.Map.{lookup, remove_entry}
use Rattle.serde_json.proofs.Views.{view-Object}
use Rattle.serde_json.specs.Data.{object}
use Rattle.serde_json.specs.View.{view, members_view}
use Rattle.deno_graph_json.proofs.Reading.{is_object}
use Rattle.deno_graph_info.proofs.MembersLemmas.{has_key, without-removed}
use Rattle.deno_graph_info.specs.Conversion.{without_value_at}
use Rattle.deno_graph_info.proofs.conversion.convert.remove_member.Goals as goal

pub returns-in-Some : goal.returns-in-Some
returns-in-Some c =
    let key = c.args.key.now in
    let old = c.in-Some.members.now.entries in
    let gone : lookup (has_key key) (remove_entry (has_key key) old) ≡ None =
    ap (lookup (has_key key)) (sym c.remove.ensures.entries) ∙ c.remove.ensures.updates.1 in
    view-Object c.remove.new.self ∙ ap (λ es. object (members_view es)) c.remove.ensures.entries
    ∙ ap object (without-removed key old gone)
    ∙ ap (without_value_at key)
    (sym (is_object (view c.args.value.now) (members_view old) (sym c.in-Some.ensures.value)))
