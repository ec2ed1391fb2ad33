use Rattle.std.proofs.Common.{◌≡◌, [], Err, sym, rules}
use Rattle.deno_graph_json.specs.declared.flat.error.TapeError.TheVariants.{Json}
use Rattle.json.specs.Lex.{tokens}
use Rattle.deno_graph_json.proofs.ValueTokens.{unreadable_text, text_and_more}
use Rattle.deno_graph_json.proofs.flat.parse.read.Goals as goal

pub returns-clause-unreadable : goal.returns-clause-unreadable
returns-clause-unreadable c offset e =
    let begun : tokens c.args.text.now ≡ c.in_ok-new.field-0 = sym c.in_ok-new.ensures.ok in
    let more : c.root.new.self.reader ≡ [] → ⊥ = rw e at c.finish.ensures.more in
    text_and_more c.args.text.now c.in_ok-new.field-0 c.root.new.self.reader c.new-2.result.items
    c.root.new.self.nodes.items begun more c.in_ok-root.ensures.put

pub returns-in_err-root-clause-unreadable : goal.returns-in_err-root-clause-unreadable
returns-in_err-root-clause-unreadable c offset e =
    let begun : tokens c.args.text.now ≡ c.in_ok-new.field-0 = sym c.in_ok-new.ensures.ok in
    let json : c.root.result ≡ Err (Json offset) = search rules in
    unreadable_text c.args.text.now c.in_ok-new.field-0 begun (c.root.ensures.none offset json)
