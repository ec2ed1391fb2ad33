use Rattle.std.proofs.Common.{[], ◌∷◌, to_z-of_z, ap, ◌∙◌}
use Rattle.std.specs.Fmt.{signed_decimal}
use Rattle.std.proofs.lemmas.Result.{on_ok_weaker}
use Rattle.json.specs.Token.{number}
use Rattle.deno_graph_json.proofs.Texts.{text_written}
use Rattle.deno_graph_json.specs.Text.{text_in, with_tokens}
use Rattle.deno_graph_info.proofs.WrittenText.{floatless_signed}
use Rattle.deno_graph_info.proofs.conversion.write.write_negative.Goals as goal

pub returns : goal.returns
returns c =
    let same = ap (λ z. with_tokens (number (signed_decimal z) ∷ []) (text_in c.args.out.now))
    (to_z-of_z c.ranges.number) in
    on_ok_weaker c.i64.result (λ written. (written ∙ same, floatless_signed c.args.number c.ranges.number))
    (text_written c.i64.result c.args.out.now c.i64.new.self _ c.i64.ensures)
