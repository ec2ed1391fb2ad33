use Rattle.std.proofs.Common.{inr}
use Rattle.std.proofs.lemmas.Option.{MatchOption-at_some}
use Rattle.deno_graph_source.proofs.SourceFaults.{found_stands}
use Rattle.deno_graph_source.specs.internal.Finding.{IsFindingIn}
use Rattle.deno_graph_source.specs.Source.{IsValid}
use Rattle.deno_graph_source.proofs.tree.check.check_source.Goals as goal

pub returns-in-Some : goal.returns-in-Some
returns-in-Some c =
    let text = c.args.text.now in
    let program = c.args.program.now in
    let comments = c.args.comments.now in
    let is = MatchOption-at_some (IsValid text program comments) (IsFindingIn text program comments)
    c.in-Some.found c.in-Some.is c.in_ok-found.ensures in
    inr (rw c.fault.ensures (found_stands text program comments c.in-Some.found is))
