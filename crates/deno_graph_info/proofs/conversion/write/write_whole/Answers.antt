use Rattle.std.proofs.Common.{decimal}
use Rattle.std.proofs.lemmas.Result.{on_ok_weaker}
use Rattle.json.specs.Token.{number}
use Rattle.deno_graph_json.proofs.Texts.{text_written}
use Rattle.deno_graph_info.proofs.WrittenText.{floatless_whole}
use Rattle.deno_graph_info.proofs.conversion.write.write_whole.Goals as goal

pub returns : goal.returns
returns c =
    on_ok_weaker c.u64.result (λ written. (written, floatless_whole c.args.number c.ranges.number.fits))
    (text_written c.u64.result c.args.out.now c.u64.new.self (number (decimal c.args.number)) c.u64.ensures)
