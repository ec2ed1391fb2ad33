use Rattle.deno_graph_info.proofs.ConvertedTexts.{empty_before, whole_text}
use Rattle.deno_graph_info.proofs.conversion.text.write_text.Goals as goal

pub finished-requires : goal.finished-requires
finished-requires c =
    let made = c.in_ok-write_converted.ensures.ok in
    empty_before made.0 c.in_ok-out.out c.write_converted.new.out c.in_ok-out.ensures made.2

pub returns-clause-ok : goal.returns-clause-ok
returns-clause-ok c =
    let made = c.in_ok-write_converted.ensures.ok in
    let text = whole_text made.0 c.in_ok-out.out c.write_converted.new.out _ c.in_ok-out.ensures made.2
    c.finished.ensures.text c.finished.ensures.tokens in
    (made.0, made.1, text.0, text.1)
