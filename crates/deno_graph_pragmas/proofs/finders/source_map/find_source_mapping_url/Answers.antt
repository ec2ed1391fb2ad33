use Rattle.std.proofs.Common.{refl, sym}
use Rattle.deno_graph_pragmas.specs.Finders.{source_mapping_url_pattern}
use Rattle.deno_graph_pragmas.proofs.Barriers.{source_mapping_url_apart}
use Rattle.deno_graph_pragmas.proofs.Found.{no_front, finds_none, finds_after, length_left}
use Rattle.deno_graph_pragmas.proofs.finders.source_map.find_source_mapping_url.Goals as goal

pub returns-in_err-value : goal.returns-in_err-value
returns-in_err-value c =
    finds_none source_mapping_url_pattern _ _ c.from_residual.ensures
    (no_front source_mapping_url_pattern _ source_mapping_url_apart refl (sym c.in_err-value.ensures.left))

pub capture_run-requires : goal.capture_run-requires
capture_run-requires c =
    let value = c.in_ok-value.ensures in
    length_left source_mapping_url_pattern.front _ _ c.utf8.text value.utf8 (sym value.left)

pub returns : goal.returns
returns c =
    let value = c.in_ok-value.ensures in
    let run = c.capture_run.ensures in
    finds_after source_mapping_url_pattern _ _ _ c.utf8.text value.utf8
    source_mapping_url_apart refl (sym value.left) run.found run.none
