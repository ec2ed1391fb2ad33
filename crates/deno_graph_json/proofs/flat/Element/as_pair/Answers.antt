use Rattle.std.proofs.Common.{arith, rules, ◌∙◌}
use Rattle.deno_graph_json.proofs.Pairs.{no_elements, no_pair, pair_found}
use Rattle.deno_graph_json.proofs.flat.Element.as_pair.Goals as goal

pub returns-in_err-elements : goal.returns-in_err-elements
returns-in_err-elements c = c.from_residual.ensures ∙ no_elements c.args.self c.in_err-elements.ensures.json

pub returns-in-Whole : goal.returns-in-Whole
returns-in-Whole c =
    pair_found c.args.self c.in_ok-elements.field-0 c.in_ok-elements.ensures.json _ _
    (omega arith) (search rules) (search rules) (search rules) (search rules)

pub returns-in_default : goal.returns-in_default
returns-in_default c =
    no_pair c.args.self c.in_ok-elements.field-0 c.in_ok-elements.ensures.json (search rules)

pub returns-in_default-2 : goal.returns-in_default-2
returns-in_default-2 c =
    no_pair c.args.self c.in_ok-elements.field-0 c.in_ok-elements.ensures.json (search rules)

pub returns-in_default-3 : goal.returns-in_default-3
returns-in_default-3 c =
    no_pair c.args.self c.in_ok-elements.field-0 c.in_ok-elements.ensures.json (search rules)

pub returns-in_default-4 : goal.returns-in_default-4
returns-in_default-4 c =
    no_pair c.args.self c.in_ok-elements.field-0 c.in_ok-elements.ensures.json (search rules)
