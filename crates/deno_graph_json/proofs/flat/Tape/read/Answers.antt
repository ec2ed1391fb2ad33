use Rattle.std.proofs.Common.{Some, sym, ap, ◌∙◌, rules}
use Rattle.deno_graph_json.specs.Data.{tape_data, value_data}
use Rattle.deno_graph_json.specs.View.{tape_value}
use Rattle.deno_graph_json.proofs.ReadTexts.{read_value, unreadable_read}
use Rattle.deno_graph_json.proofs.FirstNode.{text_listed, text_value}
use Rattle.deno_graph_json.proofs.flat.Tape.read.Goals as goal

pub invariant_of-result : goal.invariant_of-result
invariant_of-result c =
    record { of_value = text_listed c.args.text.now c.in_ok-nodes.nodes.items c.in_ok-nodes.ensures.flat }

pub returns-clause-value : goal.returns-clause-value
unfolding tape_value
returns-clause-value c = text_value c.args.text.now c.in_ok-nodes.nodes.items c.in_ok-nodes.ensures.flat

pub returns-clause-json : goal.returns-clause-json
unfolding tape_value tape_data
returns-clause-json c =
    let is = text_value c.args.text.now c.in_ok-nodes.nodes.items c.in_ok-nodes.ensures.flat in
    read_value c.args.text.now is.0 is.1 ∙ ap (λ v. Some (value_data v)) (sym is.2)

pub returns-in_err-nodes-clause-no_json : goal.returns-in_err-nodes-clause-no_json
returns-in_err-nodes-clause-no_json c offset e =
    unreadable_read c.args.text.now (c.in_err-nodes.ensures.unreadable offset (search rules))
