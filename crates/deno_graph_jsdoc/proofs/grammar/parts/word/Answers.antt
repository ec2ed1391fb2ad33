-- The word is what std's `strip_prefix` takes off.
use Rattle.deno_graph_jsdoc.proofs.Texts.{word_read}
use Rattle.deno_graph_jsdoc.proofs.grammar.parts.word.Goals as goal

pub returns : goal.returns
returns c = word_read c.args.word.now c.args.input.now c.strip_prefix.result c.utf8.input c.requires
    c.strip_prefix.ensures.cases
