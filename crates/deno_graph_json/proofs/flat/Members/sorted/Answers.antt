use Rattle.std.proofs.Common.{sym, ap, ◌∙◌, subst}
use Rattle.std.specs.List.Sorted.{IsStrictlySortedBy}
use Rattle.deno_graph_base.specs.TextMap.{IsAscending, insert_entry}
use Rattle.deno_graph_json.specs.Data.{members_data, named_data, put_members}
use Rattle.deno_graph_json.specs.View.{members_of}
use Rattle.deno_graph_json.proofs.LastMembers.{all_passed, named_insert, pass}
use Rattle.deno_graph_json.proofs.flat.Members.sorted.Goals as goal

pub loop-name-init : goal.loop-name-init
unfolding IsStrictlySortedBy members_data
loop-name-init c = (
  tt,
  tt,
  subst IsAscending (sym c.new-found.ensures) tt,
  ap (λ ms. put_members (members_of ms) (named_data c.new-found.result))
      c.into_iter-name-iterator.ensures.into_iter_gives
      ∙ ap (λ found. put_members (members_of c.args.self) (named_data found)) c.new-found.ensures,
)

pub loop-name-preserved : goal.loop-name-preserved
loop-name-preserved c =
    let kept = c.loop-name.invariant in
    let found = c.loop-name.found in
    let key = c.in-Some.name.now in
    let e = c.in-Some.value in
    let left = members_of c.next.new.self in
    let rest = pass key e (members_of c.loop-name.name-iterator) left (named_data found)
    (members_data c.args.self) c.in-Some.ensures.steps kept.3 in (
      tt,
      tt,
      c.in_ok-insert.ensures.ordered,
      ap (put_members left) (ap named_data c.in_ok-insert.ensures.ok
          ∙ ap (λ k. named_data (insert_entry found k e)) c.in_ok-from_str.ensures ∙ named_insert found key e)
          ∙ rest,
    )

pub returns-clause-members : goal.returns-clause-members
returns-clause-members c =
    all_passed (members_of c.loop-name.name-iterator) (named_data c.loop-name.found)
    (members_data c.args.self) c.in-None.ensures.steps c.loop-name.invariant.3

pub returns-clause-ordered : goal.returns-clause-ordered
returns-clause-ordered c = c.loop-name.invariant.2
