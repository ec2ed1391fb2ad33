use Rattle.serde_json.specs.Data.{object}
use Rattle.deno_graph_json.specs.Data.{data_of, members_data}
use Rattle.deno_graph_json.proofs.ObjectMembers.{Entry, rest_here}
use Rattle.deno_graph_json.proofs.ReadMaps.{member_more, members_begin, members_done}
use Rattle.deno_graph_info.specs.InfoFault.{IsInfoFault}
use Rattle.modinfo.specs.Reach.{IsFirstFault, reads_stored}
use Rattle.modinfo.proofs.Modules.{error_around, fault_after, fault_here, none_left}
use Rattle.modinfo.proofs.reach.read_infos.Goals as goal

pub loop-key-init : goal.loop-key-init
loop-key-init c =
    let all = members_data c.args.modules in
    let found = c.in_ok-found.ensures in
    let whole = c.into_iter-key-iterator.ensures.into_iter_gives.0 in (
      members_begin reads_stored all c.in_ok-found.found c.into_iter-key-iterator.result c.new-infos.result
          found.members found.ordered whole c.new-infos.ensures,
      λ inner. none_left inner all c.in_ok-found.found c.into_iter-key-iterator.result found.members whole,
    )

pub loop-key-preserved : goal.loop-key-preserved
loop-key-preserved c =
    let e : Entry = (c.in-Some.key.now, c.in-Some.value.now) in
    let all = members_data c.args.modules in
    let left = c.loop-key.key-iterator in
    let rest = c.next.new.self in
    let first = c.in-Some.ensures.steps in
    let kept = c.loop-key.invariant in
    let m = c.in-Ok.info in
    let is = c.in-Ok.ensures in (
      member_more reads_stored all c.loop-key.infos left kept.0 rest e first c.insert.new.self
          c.in_ok-from_str-in-Ok.field-0 m is c.in_ok-from_str-in-Ok.ensures c.in_ok-insert-in-Ok.ensures.ok,
      λ inner. fault_after inner all left rest e first (kept.1 inner) m is,
    )

-- The fault of the next module is the first of all.
pub returns-in-Err : goal.returns-in-Err
returns-in-Err c =
    let e : Entry = (c.in-Some.key.now, c.in-Some.value.now) in
    let all = members_data c.args.modules in
    let left = c.loop-key.key-iterator in
    let rest = c.next.new.self in
    let first = c.in-Some.ensures.steps in
    let around = c.in_member.ensures in
    let fault = c.in-Err.error.fault in
    let d = data_of e.1 in
    rw around.fault (error_around (IsInfoFault d) (IsFirstFault all) (object all) d fault
    c.in-Err.error.error c.in_member.result.error around.mismatch
    (around.place (object all) d (rest_here all left rest e c.loop-key.invariant.0.passed first))
    around.expected (fault_here fault all left rest e first (c.loop-key.invariant.1 fault)) c.in-Err.ensures)

pub returns : goal.returns
returns c = members_done reads_stored (members_data c.args.modules) c.loop-key.infos c.loop-key.key-iterator
    c.loop-key.invariant.0 c.in-None.ensures.steps.0
