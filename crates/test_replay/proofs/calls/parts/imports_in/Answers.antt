-- A fact about all filed comments holds in any order.
use Rattle.std.proofs.lemmas.List.Sorted.{All-permutation}
use Rattle.deno_graph_module_info.proofs.JsDocComments.{apart_in_any_order}
use Rattle.deno_graph_source.specs.Source.{IsSpelled}
use Rattle.test_replay.proofs.calls.parts.imports_in.Goals as goal

pub jsdoc_imports-requires-clause-spelled : goal.jsdoc_imports-requires-clause-spelled
jsdoc_imports-requires-clause-spelled c =
    rw c.as_slice.ensures.value
    (All-permutation (IsSpelled c.args.text_info.now) _ _ c.in_ok-all.ensures c.requires.spelled)

pub jsdoc_imports-requires-clause-apart : goal.jsdoc_imports-requires-clause-apart
jsdoc_imports-requires-clause-apart c =
    rw c.as_slice.ensures.value (apart_in_any_order _ _ c.in_ok-all.ensures c.requires.apart)
