use Rattle.std.proofs.Common.{true, false, refl, sym, ap, ◌∙◌}
use Rattle.serde_json.specs.Data.{no_members, put}
use Rattle.serde_json.specs.Find.{get_member}
use Rattle.deno_graph_json.specs.Data.{data_of, members_data}
use Rattle.deno_graph_json.specs.View.{members_of}
use Rattle.deno_graph_json.proofs.LastMembers.{all_passed, found_next, pass}
use Rattle.deno_graph_json.proofs.flat.Members.get.Goals as goal

pub loop-key-init : goal.loop-key-init
unfolding members_data
loop-key-init c = (tt, tt, no_members, refl, ap members_data c.into_iter-key-iterator.ensures.into_iter_gives)

pub loop-key-preserved-then-eq : goal.loop-key-preserved-then-eq
loop-key-preserved-then-eq c =
    let kept = c.loop-key.invariant in
    let k = c.in-Some.key.now in
    let e = c.in-Some.value in (
      tt,
      tt,
      put k (data_of e) kept.2,
      found_next c.args.name.now k e c.loop-key.found kept.2 true (sym c.eq.ensures ∙ c.if-eq.true) kept.3,
      pass k e (members_of c.loop-key.key-iterator) (members_of c.next.new.self) kept.2
          (members_data c.args.self) c.in-Some.ensures.steps kept.4,
    )

pub loop-key-preserved : goal.loop-key-preserved
loop-key-preserved c =
    let kept = c.loop-key.invariant in
    let k = c.in-Some.key.now in
    let e = c.in-Some.value in (
      tt,
      tt,
      put k (data_of e) kept.2,
      found_next c.args.name.now k e c.loop-key.found kept.2 false (sym c.eq.ensures ∙ c.if-eq.false) kept.3,
      pass k e (members_of c.loop-key.key-iterator) (members_of c.next.new.self) kept.2
          (members_data c.args.self) c.in-Some.ensures.steps kept.4,
    )

pub returns : goal.returns
returns c =
    let kept = c.loop-key.invariant in
    let all = all_passed (members_of c.loop-key.key-iterator) kept.2 (members_data c.args.self)
    c.in-None.ensures.steps kept.4 in
    record { json = kept.3 ∙ ap (get_member c.args.name.now) all }
