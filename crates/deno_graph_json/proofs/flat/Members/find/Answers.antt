use Rattle.std.proofs.Common.{◌≡◌, length, replicate, None, arith, sym, ap, subst, ◌∙◌}
use Rattle.serde_json.specs.Data.{no_members, put}
use Rattle.deno_graph_json.specs.Data.{data_of, members_data}
use Rattle.deno_graph_json.specs.Found.{AreFound}
use Rattle.deno_graph_json.specs.View.{members_of}
use Rattle.deno_graph_json.proofs.FoundMembers.{found_more, none_found}
use Rattle.deno_graph_json.proofs.LastMembers.{all_passed, pass}
use Rattle.deno_graph_json.proofs.flat.Members.find.Goals as goal

pub loop-key-init : goal.loop-key-init
unfolding members_data
loop-key-init c =
    let none : c.fill.new.self ≡ replicate (length c.args.found.now) None = grind arith in (
      tt,
      tt,
      c.fill.ensures.len,
      no_members,
      subst (AreFound c.args.names.now no_members) (sym none)
          (none_found c.args.names.now (length c.args.found.now)),
      ap members_data c.into_iter-key-iterator.ensures.into_iter_gives,
    )

pub loop-key-preserved : goal.loop-key-preserved
loop-key-preserved c =
    let kept = c.loop-key.invariant in
    let names = c.args.names.now in
    let k = c.in-Some.key.now in
    let e = c.in-Some.value in (
      tt,
      tt,
      c.set_named.ensures.length ∙ kept.2,
      put k (data_of e) kept.3,
      subst (AreFound names (put k (data_of e) kept.3)) (sym c.set_named.ensures.found)
          (found_more names k e kept.3 c.loop-key.found kept.4),
      pass k e (members_of c.loop-key.key-iterator) (members_of c.next.new.self) kept.3
          (members_data c.args.self) c.in-Some.ensures.steps kept.5,
    )

pub returns-clause-found : goal.returns-clause-found
returns-clause-found c =
    let kept = c.loop-key.invariant in
    let all = all_passed (members_of c.loop-key.key-iterator) kept.3 (members_data c.args.self)
    c.in-None.ensures.steps kept.5 in
    subst (λ ms. AreFound c.args.names.now ms c.loop-key.found) all kept.4
