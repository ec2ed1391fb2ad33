use Rattle.std.proofs.Common.{◌≡◌, ◌<◌, ◌^◌, ◌++◌, ◌∷◌, [], map, Some, arith, rules, subst, sym, ap, ◌∙◌}
use Rattle.std.proofs.lemmas.List.{map-append}
use Rattle.std.specs.Str.Parse.{IsNumeral, digits_value}
use Rattle.serde_json.specs.Data.{unsigned}
use Rattle.serde_json.specs.Read.{number_of}
use Rattle.deno_graph_json.specs.Flat.{plain}
use Rattle.deno_graph_json.proofs.Numbers.{number_of_digits, read_node, read_fits}
use Rattle.deno_graph_json.proofs.flat.parse.Parser.number.Goals as goal
use Rattle.deno_graph_json.proofs.flat.parse.Parser.number.Goals.{In_ok-push-in-Some}

whole_read : (c : In_ok-push-in-Some) → number_of c.args.digits.now ≡ Some (unsigned c.in-Some.whole)
whole_read c =
    let text = c.args.digits.now in
    let is : IsNumeral 10 text = subst (IsNumeral 10) c.as_bytes.ensures.value c.in-Some.ensures.numeral in
    let value : c.in-Some.whole ≡ digits_value 10 text =
    c.in-Some.ensures.value ∙ ap (digits_value 10) c.as_bytes.ensures.value in
    let less : c.in-Some.whole < 2 ^ 64 = omega arith in
    number_of_digits text is (omega (arith, value)) ∙ ap (λ n. Some (unsigned n)) (sym value)

pub returns-in_ok-push-in-Some-clause-nodes : goal.returns-in_ok-push-in-Some-clause-nodes
returns-in_ok-push-in-Some-clause-nodes c =
    ap (map plain) c.in_ok-push-in-Some.ensures.items ∙ map-append plain _ _
    ∙ ap (λ node. map plain c.args.self.now.nodes.items ++ node ∷ [])
    (read_node c.args.digits.now (unsigned c.in-Some.whole) (whole_read c))

pub returns-in_ok-push-in-Some-clause-fits : goal.returns-in_ok-push-in-Some-clause-fits
returns-in_ok-push-in-Some-clause-fits c =
    read_fits c.args.digits.now (unsigned c.in-Some.whole) (whole_read c)

pub returns-in_err-push-in-Some : goal.returns-in_err-push-in-Some
returns-in_err-push-in-Some c =
    record { nodes = search rules; fits = search rules; large = search rules; reader = search rules }

pub returns-in_err-push-in-None : goal.returns-in_err-push-in-None
returns-in_err-push-in-None c =
    record { nodes = search rules; fits = search rules; large = search rules; reader = search rules }

pub returns-in_err-node-in-None-clause-nodes : goal.returns-in_err-node-in-None-clause-nodes
returns-in_err-node-in-None-clause-nodes c = search rules

pub returns-in_err-node-in-None-clause-fits : goal.returns-in_err-node-in-None-clause-fits
returns-in_err-node-in-None-clause-fits c = search rules

pub returns-in_err-node-in-None-clause-reader : goal.returns-in_err-node-in-None-clause-reader
returns-in_err-node-in-None-clause-reader c = search rules
