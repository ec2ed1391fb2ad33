use Rattle.deno_graph_json.specs.ObjectReader.{value_of}
use Rattle.deno_graph_json.specs.Read.Partial.{member_at}
use Rattle.deno_graph_json.proofs.Reading.{error_around, goes_on}
use Rattle.modinfo_estree.proofs.required.in_member.Goals as goal

pub returns-in-Ok : goal.returns-in-Ok
unfolding member_at
returns-in-Ok g c = λ value reads here h. goes_on _ _ value _ here (rw c.in-Ok.is at h)

pub returns-in-Err : goal.returns-in-Err
unfolding member_at
returns-in-Err g c = λ value reads here h.
    let outer = value_of c.args.members.now in
    rw here (error_around outer value (reads value) c.in-Err.error c.in_member.result
    (c.in_member.ensures.place outer value here) c.in_member.ensures.mismatch (rw c.in-Err.is at h))
