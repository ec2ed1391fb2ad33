use Rattle.std.proofs.Common.{sym, ◌∙◌}
use Rattle.std.proofs.lemmas.Bool.{true≢false}
use Rattle.deno_graph_source.proofs.MediaTypeTables.{in_table_found, in_table_passed}
use Rattle.deno_graph_source.proofs.tree.media_type.table.look_up.Goals as goal

pub returns-then-eq_ignore_ascii_case : goal.returns-then-eq_ignore_ascii_case
returns-then-eq_ignore_ascii_case c =
    sym (c.loop-key.invariant ∙ in_table_found _ _ _ _ c.loop-key-test.true
    (c.eq_ignore_ascii_case.ensures.test.0 c.if-eq_ignore_ascii_case.true))

pub loop-key-preserved : goal.loop-key-preserved
loop-key-preserved c =
    c.loop-key.invariant ∙ in_table_passed _ _ _ _ c.loop-key-test.true
    (λ same. true≢false (sym (c.eq_ignore_ascii_case.ensures.test.1 same) ∙ c.if-eq_ignore_ascii_case.false))
