use Rattle.std.proofs.Common.{sym, ◌∙◌}
use Rattle.deno_graph_json.specs.Data.{data_of}
use Rattle.deno_graph_info.proofs.OneOutcome.{typed_fits}
use Rattle.deno_graph_info.proofs.conversion.change.change_of.Goals as goal

pub returns-in_ok-types_named-in-Some-clause-fits : goal.returns-in_ok-types_named-in-Some-clause-fits
returns-in_ok-types_named-in-Some-clause-fits c =
    let parts = c.captures_are_unique.ensures.parts in
    typed_fits parts.deno_types parts.quoteless_deno_types (data_of c.args.dependency) c.in-Some.comments
    c.in_ok-types_named-in-Some.field-0 (sym c.in_ok-comments.ensures ∙ c.in-Some.is)
    c.in_ok-types_named-in-Some.ensures.ok
