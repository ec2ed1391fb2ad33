-- The text so far, with the tokens of the warnings that are left, is the one at the end.
use Rattle.std.proofs.Common.{◌≡◌, drop, map}
use Rattle.json.specs.Tree.{items_tokens}
use Rattle.deno_graph_json.specs.Text.{text_in, with_tokens}
use Rattle.modinfo_document.specs.ReportText.{json_items, json_of_warning}
use Rattle.modinfo_document.proofs.report.write_kept.Given as goal

abbrev pub invariant-loop-warning : goal.invariant-loop-warning
invariant-loop-warning l =
    with_tokens (items_tokens (json_items (map json_of_warning (drop l.warning-index l.kept))))
    (text_in l.line)
    ≡ with_tokens (items_tokens (json_items (map json_of_warning l.kept))) (text_in l.initial.line)
