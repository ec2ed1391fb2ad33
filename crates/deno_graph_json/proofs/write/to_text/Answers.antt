use Rattle.std.proofs.Common.{ap, ◌∙◌}
use Rattle.deno_graph_json.specs.Text.{text_tokens, with_tokens}
use Rattle.deno_graph_json.proofs.Texts.{value_text}
use Rattle.deno_graph_json.proofs.write.to_text.Goals as goal

pub returns : goal.returns
returns g c =
    let d = g.T.ToJson.json c.args.value.now in
    c.into_text.ensures
    ∙ value_text d c.append.new.out
    (c.in_ok-append.ensures.ok ∙ ap (with_tokens (text_tokens d)) c.in_ok-out.ensures)
