use Rattle.std.proofs.lemmas.Option.{MatchOption-at_some}
use Rattle.deno_graph_source.proofs.SourceFaults.{fault_refutes, found_stands}
use Rattle.deno_graph_source.specs.internal.Finding.{IsFindingIn, finding_fault}
use Rattle.deno_graph_source.specs.Source.{IsValid}
use Rattle.deno_graph_source.proofs.tree.check.source_fault.Goals as goal

pub returns-in-Some-clause-valid : goal.returns-in-Some-clause-valid
returns-in-Some-clause-valid c =
    let text = c.args.text.now in
    let program = c.args.program.now in
    let comments = c.args.comments.now in
    let found = c.in-Some.found in
    let is = MatchOption-at_some (IsValid text program comments) (IsFindingIn text program comments) found
    c.in-Some.is c.in_ok-found.ensures in (
      λ no. cc,
      λ valid. absurd (fault_refutes text program comments (finding_fault found)
          (found_stands text program comments found is) valid),
    )

pub returns-in-Some-clause-fault : goal.returns-in-Some-clause-fault
returns-in-Some-clause-fault c =
    let text = c.args.text.now in
    let program = c.args.program.now in
    let comments = c.args.comments.now in
    let is = MatchOption-at_some (IsValid text program comments) (IsFindingIn text program comments)
    c.in-Some.found c.in-Some.is c.in_ok-found.ensures in
    rw c.fault.ensures (found_stands text program comments c.in-Some.found is)
