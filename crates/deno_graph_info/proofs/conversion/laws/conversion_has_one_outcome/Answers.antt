use Rattle.deno_graph_info.proofs.OneOutcome.{converted_once, converted_or_overflows}
use Rattle.deno_graph_info.proofs.SomeConverted.{some_converted}
use Rattle.deno_graph_info.proofs.conversion.laws.conversion_has_one_outcome.Goals as goal

pub returns-clause-some : goal.returns-clause-some
returns-clause-some c = some_converted

pub returns-clause-one : goal.returns-clause-one
returns-clause-one c =
    let parts = c.captures_are_unique.ensures.parts in
    converted_once parts.deno_types parts.quoteless_deno_types

pub returns-clause-none : goal.returns-clause-none
returns-clause-none c =
    let parts = c.captures_are_unique.ensures.parts in
    converted_or_overflows parts.deno_types parts.quoteless_deno_types
