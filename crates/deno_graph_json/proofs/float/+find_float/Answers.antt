use Rattle.std.proofs.Common.{true, false, Some, None, arith, ap, ◌∙◌}
use Rattle.serde_json.specs.Data.{array, object}
use Rattle.serde_json.specs.Written.{has_float, items_have_float, members_have_float}
use Rattle.deno_graph_json.specs.Data.{data_of, named_data, elements_data, members_data}
use Rattle.deno_graph_json.proofs.ArrayElements.{count_next, elements_next, from_next, from_here}
use Rattle.deno_graph_json.proofs.ArrayElements.{depth_of_item}
use Rattle.deno_graph_json.proofs.Floats.{no_float_found, float_error, items_after, members_after}
use Rattle.deno_graph_json.proofs.ObjectMembers.{Entry, rest_next, rest_here, depth_of_member}
use Rattle.deno_graph_json.proofs.Reading.{error_around}
use Rattle.deno_graph_json.specs.Read.Partial.{unless_float}
use Rattle.deno_graph_json.specs.declared.expected.Expected.TheVariants.{Integer}
use Rattle.deno_graph_json.proofs.float.+find_float.Goals as goal

pub find_float_in_items-find_float_in-requires : goal.find_float_in_items-find_float_in-requires
find_float_in_items-find_float_in-requires t c =
    let all = elements_data c.args.items in
    let d = data_of c.in-Some.item in
    let first = elements_next c.loop-item.item-iterator c.next.new.self (Some c.in-Some.item)
    c.in-Some.ensures.steps in
    let here = from_here c.loop-item.number all _ _ d c.loop-item.invariant.4 first in
    (omega (arith, c.decreases, depth_of_item c.loop-item.number all d here), tt)

pub find_float_in_items-returns-in-Err-clause-read : goal.find_float_in_items-returns-in-Err-clause-read
find_float_in_items-returns-in-Err-clause-read t c =
    let all = elements_data c.args.items in
    let left = elements_data c.loop-item.item-iterator in
    let rest = elements_data c.next.new.self in
    let d = data_of c.in-Some.item in
    let kept = c.loop-item.invariant in
    let first = elements_next c.loop-item.item-iterator c.next.new.self (Some c.in-Some.item)
    c.in-Some.ensures.steps in
    float_error (array all) (has_float d) (items_have_float all) c.in_item.result
    (items_after true all left rest d kept.3 first)
    (error_around (array all) d (unless_float (has_float d)) c.in-Err.error c.in_item.result
    (c.in_item.ensures.place (array all) d (from_here c.loop-item.number all left rest d kept.4 first))
    c.in_item.ensures.mismatch c.in-Err.ensures.read)

pub find_float_in_items-returns-in-Err-clause-expected :
    goal.find_float_in_items-returns-in-Err-clause-expected
find_float_in_items-returns-in-Err-clause-expected t c =
    c.in_item.ensures.expected Integer c.in-Err.ensures.expected

pub find_float_in_items-loop-item-preserved : goal.find_float_in_items-loop-item-preserved
find_float_in_items-loop-item-preserved t c =
    let all = elements_data c.args.items in
    let left = elements_data c.loop-item.item-iterator in
    let rest = elements_data c.next.new.self in
    let d = data_of c.in-Some.item in
    let kept = c.loop-item.invariant in
    let steps = c.in-Some.ensures.steps in
    let first = elements_next c.loop-item.item-iterator c.next.new.self (Some c.in-Some.item) steps in (
      tt,
      tt,
      omega (arith, kept.2, count_next c.loop-item.item-iterator c.next.new.self c.in-Some.item steps),
      items_after false all left rest d kept.3 first (no_float_found (has_float d) c.in_default.ensures.read),
      from_next c.loop-item.number all left rest d kept.4 first,
    )

pub find_float_in_items-returns-clause-read : goal.find_float_in_items-returns-clause-read
find_float_in_items-returns-clause-read t c =
    let none = elements_next c.loop-item.item-iterator c.next.new.self None c.in-None.ensures.steps in
    ap unless_float (c.loop-item.invariant.3 ∙ ap items_have_float none)

pub find_float_in_members-find_float_in-requires : goal.find_float_in_members-find_float_in-requires
find_float_in_members-find_float_in-requires t c =
    let e : Entry = (c.in-Some.name.now, c.in-Some.value.now) in (
      omega (
        arith,
        c.decreases,
        depth_of_member (members_data c.args.members) c.loop-name.name-iterator
            c.next.new.self e c.loop-name.invariant.1 c.in-Some.ensures.steps,
      ),
      tt,
    )

pub find_float_in_members-returns-in-Err-clause-read : goal.find_float_in_members-returns-in-Err-clause-read
find_float_in_members-returns-in-Err-clause-read t c =
    let e : Entry = (c.in-Some.name.now, c.in-Some.value.now) in
    let d = data_of e.1 in
    let all = members_data c.args.members in
    let left = c.loop-name.name-iterator in
    let rest = c.next.new.self in
    let first = c.in-Some.ensures.steps in
    let kept = c.loop-name.invariant in
    float_error (object all) (has_float d) (members_have_float all) c.in_member.result
    (members_after true all (named_data left) (named_data rest) e.0 d kept.0 (ap named_data first))
    (error_around (object all) d (unless_float (has_float d)) c.in-Err.error c.in_member.result
    (c.in_member.ensures.place (object all) d (rest_here all left rest e kept.1 first))
    c.in_member.ensures.mismatch c.in-Err.ensures.read)

pub find_float_in_members-returns-in-Err-clause-expected :
    goal.find_float_in_members-returns-in-Err-clause-expected
find_float_in_members-returns-in-Err-clause-expected t c =
    c.in_member.ensures.expected Integer c.in-Err.ensures.expected

pub find_float_in_members-loop-name-preserved : goal.find_float_in_members-loop-name-preserved
find_float_in_members-loop-name-preserved t c =
    let e : Entry = (c.in-Some.name.now, c.in-Some.value.now) in
    let d = data_of e.1 in
    let all = members_data c.args.members in
    let left = c.loop-name.name-iterator in
    let rest = c.next.new.self in
    let first = c.in-Some.ensures.steps in
    let kept = c.loop-name.invariant in (
      members_after false all (named_data left) (named_data rest) e.0 d kept.0 (ap named_data first)
          (no_float_found (has_float d) c.in_default.ensures.read),
      rest_next all left rest e kept.1 first,
    )
