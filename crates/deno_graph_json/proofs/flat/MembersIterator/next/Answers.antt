use Rattle.std.proofs.Common.{◌<◌, ◌∷◌, length, length-append, map, arith, subst, ap, ◌∙◌}
use Rattle.std.proofs.lemmas.List.{nil_from_length, length-map}
use Rattle.deno_graph_json.specs.Flat.{plain}
use Rattle.deno_graph_json.specs.Value.{AreOfMembers, flat_value, members_in}
use Rattle.deno_graph_json.specs.View.{members_of, value_of}
use Rattle.deno_graph_json.proofs.FirstValue.{begins_member, first_name, member_first, members_after}
use Rattle.deno_graph_json.proofs.FirstValue.{no_entry, value_follows}
use Rattle.deno_graph_json.proofs.flat.MembersIterator.next.Goals as goal

pub returns-in_err-key-clause-steps : goal.returns-in_err-key-clause-steps
returns-in_err-key-clause-steps c =
    no_entry c.args.self.now c.from_residual.result c.from_residual.ensures
    (nil_from_length c.args.self.now.nodes.now c.in_err-key.ensures.cases)

pub returns-in_default : goal.returns-in_default
returns-in_default c =
    let ns = map plain c.in_ok-key.nodes.now in
    let of = subst AreOfMembers (ap (map plain) c.in_ok-key.ensures.cases.0) c.args.self.now.of_members in
    let name = first_name c.in_ok-key.key.now ns of in
    absurd (c.in_default.not-Key name.0 name.1)

pub split_value-requires : goal.split_value-requires
split_value-requires c =
    let ns = map plain c.in_ok-key.nodes.now in
    let of = subst AreOfMembers (ap (map plain) c.in_ok-key.ensures.cases.0) c.args.self.now.of_members in
    begins_member c.in_ok-key.key.now ns of

pub returns-in_err-value-clause-steps : goal.returns-in_err-value-clause-steps
returns-in_err-value-clause-steps c =
    let ns = map plain c.in_ok-key.nodes.now in
    let of = subst AreOfMembers (ap (map plain) c.in_ok-key.ensures.cases.0) c.args.self.now.of_members in
    absurd (value_follows c.in_ok-key.key.now ns of (ap (map plain) c.in_err-value.ensures))

pub invariant_of-self : goal.invariant_of-self
invariant_of-self c =
    let ns = map plain c.in_ok-key.nodes.now in
    let is = ap (map plain) c.in_ok-key.ensures.cases.0 ∙ ap (λ n. plain n ∷ ns) c.in-Key.is in
    let found = c.in_ok-value in
    record {
      of_members = members_after c.in-Key.name.now (value_of found.value) ns (map plain found.nodes.now)
          found.ensures (subst AreOfMembers is c.args.self.now.of_members);
    }

pub returns-clause-steps : goal.returns-clause-steps
unfolding members_of
returns-clause-steps c =
    let ns = map plain c.in_ok-key.nodes.now in
    let is = ap (map plain) c.in_ok-key.ensures.cases.0 ∙ ap (λ n. plain n ∷ ns) c.in-Key.is in
    let found = c.in_ok-value in
    ap members_in is
    ∙ member_first c.in-Key.name.now (value_of found.value) ns (map plain found.nodes.now)
    found.ensures (subst AreOfMembers is c.args.self.now.of_members)

pub returns-clause-goes : goal.returns-clause-goes
returns-clause-goes c =
    let ns = c.in_ok-key.nodes.now in
    let found = c.in_ok-value in
    let fewer : length found.nodes.now < length c.args.self.now.nodes.now =
    omega (
      arith,
      c.in_ok-key.ensures.cases.1,
      length-map ns plain,
      length-map found.nodes.now plain,
      ap length found.ensures,
      length-append (flat_value (value_of found.value)) (map plain found.nodes.now),
    ) in
    record { on = λ finite. (tt, tt, fewer); keeps = tt; rests = λ finite. tt }
