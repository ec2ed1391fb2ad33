use Rattle.std.proofs.Common.{[], rules}
use Rattle.std.specs.List.{All}
use Rattle.std.proofs.lemmas.List.Elements.{All-head}
use Rattle.std.proofs.lemmas.List.Sorted.{IsNonDecreasingBy-from_sort_by_key}
use Rattle.std.proofs.lemmas.Option.{MatchOption-at_none}
use Rattle.deno_graph_source.proofs.SourceFaults.{overlap_sorted, valid_sorted}
use Rattle.deno_graph_source.specs.internal.Check.{IsSound}
use Rattle.deno_graph_source.specs.internal.Finding.{IsFindingInBody}
use Rattle.deno_graph_source.specs.Node.{nodes_of}
use Rattle.deno_graph_base.specs.SourceRange.{IsTextRange}
use Rattle.deno_graph_source.proofs.tree.check.find_fault.Goals as goal

pub returns-in-Some-check_neighbours : goal.returns-in-Some-check_neighbours
returns-in-Some-check_neighbours c =
    let spelled = rw c.deref.ensures.value at c.in_default-check_comments.ensures in
    let are = rw c.deref-2.ensures.value at c.in-Some-check_neighbours.ensures in
    let rising = IsNonDecreasingBy-from_sort_by_key (λ comment. comment.now.range.start) _
    c.in_ok-sort_by_key.ensures.sorted (λ a r q k. search rules) in
    overlap_sorted c.args.text.now c.args.program.now c.args.comments.now (λ comment. comment.now)
    c.in_ok-all.all.items c.sort_by_key.new.self.items c.in_ok-all.ensures
    c.in_ok-sort_by_key.ensures.permutation spelled rising c.in-Some-check_neighbours.before
    c.in-Some-check_neighbours.after are

pub returns : goal.returns
returns c =
    let text = c.args.text.now in
    let program = c.args.program.now in
    let spelled = rw c.deref.ensures.value at c.in_default-check_comments.ensures in
    let passes = rw c.deref-2.ensures.value at c.in-None.ensures in
    let rising = IsNonDecreasingBy-from_sort_by_key (λ comment. comment.now.range.start) _
    c.in_ok-sort_by_key.ensures.sorted (λ a r q k. search rules) in
    let in_range = All-head (IsTextRange text) program.range [] c.in_default.ensures in
    let sound = MatchOption-at_none (All (IsSound text) (nodes_of program)) (IsFindingInBody text program)
    c.in_default-2.is c.in_ok-found.ensures in
    valid_sorted text program c.args.comments.now (λ comment. comment.now) c.in_ok-all.all.items
    c.sort_by_key.new.self.items c.in_ok-all.ensures c.in_ok-sort_by_key.ensures.permutation spelled rising
    in_range sound passes
