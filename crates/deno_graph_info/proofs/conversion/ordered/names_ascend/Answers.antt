use Rattle.std.proofs.Common.{◌≡◌, true, refl, sym, ap, ◌∙◌}
use Rattle.serde_json.specs.Data.{no_members, put}
use Rattle.deno_graph_json.specs.Data.{data_of, members_data}
use Rattle.deno_graph_json.specs.View.{members_of}
use Rattle.deno_graph_json.proofs.LastMembers.{all_passed, pass}
use Rattle.deno_graph_info.specs.internal.Chosen.{is_above, text_of}
use Rattle.deno_graph_info.specs.internal.Ordered.{listed}
use Rattle.deno_graph_info.proofs.OrderedMembers.{followed_by, followed_by-nothing, listed_next, next_last}
use Rattle.deno_graph_info.proofs.OrderedMembers.{next_listed}
use Rattle.deno_graph_info.proofs.conversion.ordered.names_ascend.Goals as goal

pub loop-name-init : goal.loop-name-init
unfolding members_data
loop-name-init c = (
  tt,
  tt,
  no_members,
  refl,
  ap members_data c.into_iter-name-iterator.ensures.into_iter_gives,
  ap (λ ms. listed (members_of ms)) c.into_iter-name-iterator.ensures.into_iter_gives,
)

pub loop-name-preserved : goal.loop-name-preserved
loop-name-preserved c =
    let kept = c.loop-name.invariant in
    let k = c.in-Some.name.now in
    let e = c.in-Some.field-0-1 in
    let d = data_of e in
    let last = c.loop-name.last in
    let test : is_above (text_of last) k ≡ true = sym c.comes_after.ensures ∙ c.if-not-comes_after.false in
    let left = members_of c.next.new.self in
    let steps = c.in-Some.ensures.steps in (
      tt,
      tt,
      put k d kept.2,
      next_last last kept.2 k d kept.3 test,
      pass k e (members_of c.loop-name.name-iterator) left kept.2 (members_data c.args.members) steps kept.4,
      next_listed last kept.2 k d kept.3 test (listed left)
          ∙ ap (followed_by kept.2) (sym (listed_next k e (members_of c.loop-name.name-iterator) left steps))
          ∙ kept.5,
    )

-- no member is left
pub returns : goal.returns
returns c =
    λ _. let kept = c.loop-name.invariant in
    let none = c.in-None.ensures.steps in
    sym (all_passed (members_of c.loop-name.name-iterator) kept.2 (members_data c.args.members) none kept.4)
    ∙ sym (followed_by-nothing kept.2) ∙ ap (λ ms. followed_by kept.2 (listed ms)) (sym none) ∙ kept.5
