use Rattle.std.proofs.Common.{◌≡◌, rules, refl, sym, ap, ◌∙◌, subst, ◌==◌}
use Rattle.serde_json.specs.Data.{no_members, member, put}
use Rattle.serde_json.specs.Events.{members_len}
use Rattle.deno_graph_json.specs.Data.{data_of, members_data, put_members}
use Rattle.deno_graph_json.specs.View.{members_of}
use Rattle.deno_graph_json.proofs.LastMembers.{all_passed, pass}
use Rattle.deno_graph_json.proofs.OneName.{IsOne, counted, put_same, two_names}
use Rattle.deno_graph_json.proofs.flat.Members.have_one_name.Goals as goal

pub loop-name-init : goal.loop-name-init
unfolding members_data
loop-name-init c = (
  tt,
  tt,
  no_members,
  refl,
  ap members_data c.into_iter-name-iterator.ensures.into_iter_gives,
)

pub loop-name-preserved-in-None-first : goal.loop-name-preserved-in-None-first
loop-name-preserved-in-None-first c =
    let kept = c.loop-name.invariant in
    let none : kept.2 ≡ no_members = subst (λ f. IsOne f kept.2) c.in-None-first.is kept.3 in
    let k = c.in-Some.name.now in
    let e = c.in-Some.field-0-1 in
    let rest = pass k e (members_of c.loop-name.name-iterator) (members_of c.next.new.self) kept.2
    (members_data c.args.self) c.in-Some.ensures.steps kept.4 in (
      tt,
      tt,
      member k (data_of e) no_members,
      (data_of e, refl),
      sym (ap (λ ms. put_members (members_of c.next.new.self) (put k (data_of e) ms)) none) ∙ rest,
    )

pub loop-name-preserved : goal.loop-name-preserved
loop-name-preserved c =
    let kept = c.loop-name.invariant in
    let one = subst (λ f. IsOne f kept.2) c.in-Some-first.is kept.3 in
    let k = c.in-Some.name.now in
    let e = c.in-Some.field-0-1 in
    let first = c.in-Some-first.first.now in
    let same : first ≡ k = search rules in
    let rest = pass k e (members_of c.loop-name.name-iterator) (members_of c.next.new.self) kept.2
    (members_data c.args.self) c.in-Some.ensures.steps kept.4 in (
      tt,
      tt,
      member first (data_of e) no_members,
      subst (λ f. IsOne f (member first (data_of e) no_members)) (sym c.in-Some-first.is)
          (data_of e, refl),
      ap (put_members (members_of c.next.new.self))
          (sym (put_same k first (data_of e) one.0 same) ∙ ap (put k (data_of e)) (sym one.1)) ∙ rest,
    )

pub returns-in-Some-2 : goal.returns-in-Some-2
returns-in-Some-2 c =
    let kept = c.loop-name.invariant in
    let one = subst (λ f. IsOne f kept.2) c.in-Some-first.is kept.3 in
    let k = c.in-Some.name.now in
    let e = c.in-Some.field-0-1 in
    let first = c.in-Some-first.first.now in
    let other : first ≡ k → ⊥ = search rules in
    let rest = pass k e (members_of c.loop-name.name-iterator) (members_of c.next.new.self) kept.2
    (members_data c.args.self) c.in-Some.ensures.steps kept.4 in
    two_names k first (data_of e) one.0 (members_of c.next.new.self) (members_data c.args.self) other
    (ap (λ ms. put_members (members_of c.next.new.self) (put k (data_of e) ms)) (sym one.1) ∙ rest)

pub returns : goal.returns
returns c =
    let kept = c.loop-name.invariant in
    let all = all_passed (members_of c.loop-name.name-iterator) kept.2 (members_data c.args.self)
    c.in-None.ensures.steps kept.4 in
    c.is_some.ensures ∙ counted c.loop-name.first kept.2 kept.3 ∙ ap (λ ms. members_len ms == 1) all
