use Rattle.serde_json.specs.Data.{object}
use Rattle.deno_graph_json.specs.Data.{members_data}
use Rattle.deno_graph_json.proofs.ObjectMembers.{Entry, rest_here}
use Rattle.deno_graph_json.proofs.ReadMaps.{member_more, members_begin, members_error, members_done}
use Rattle.deno_graph_json.proofs.Reading.{whole_error}
use Rattle.deno_graph_json.proofs.read.read_map.Goals as goal

pub loop-name-init : goal.loop-name-init
loop-name-init g c =
    members_begin g.T.FromJson.reads (members_data c.args.members) c.in_ok-found.found
    c.into_iter-name-iterator.result c.new-map.result c.in_ok-found.ensures.members
    c.in_ok-found.ensures.ordered c.into_iter-name-iterator.ensures.into_iter_gives.0 c.new-map.ensures

pub loop-name-preserved : goal.loop-name-preserved
loop-name-preserved g c =
    let e : Entry = (c.in-Some.name.now, c.in-Some.value.now) in
    let all = members_data c.args.members in
    let left = c.loop-name.name-iterator in
    let rest = c.next.new.self in
    let first = c.in-Some.ensures.steps in
    let kept = c.loop-name.invariant in
    member_more g.T.FromJson.reads all c.loop-name.map left kept rest e first c.insert.new.self
    c.in_ok-from_str.field-0 c.in_ok-item.item
    (c.in_ok-item.ensures (object all) (rest_here all left rest e kept.passed first))
    c.in_ok-from_str.ensures c.in_ok-insert.ensures.ok

pub returns-in_err-item : goal.returns-in_err-item
returns-in_err-item g c =
    let e : Entry = (c.in-Some.name.now, c.in-Some.value.now) in
    let all = members_data c.args.members in
    let left = c.loop-name.name-iterator in
    let rest = c.next.new.self in
    let first = c.in-Some.ensures.steps in
    let kept = c.loop-name.invariant in
    whole_error _ _ _ _ c.from_residual-in_err-item.ensures.1
    (members_error g.T.FromJson.reads all c.loop-name.map left kept rest e first (object all) _
    (c.in_err-item.ensures (object all) (rest_here all left rest e kept.passed first)))

pub returns : goal.returns
returns g c = members_done g.T.FromJson.reads (members_data c.args.members) c.loop-name.map
    c.loop-name.name-iterator c.loop-name.invariant c.in-None.ensures.steps.0
