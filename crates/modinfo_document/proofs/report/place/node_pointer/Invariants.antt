-- The pointer is that of the node to which the indices so far lead.
use Rattle.std.proofs.Common.{◌≡◌, List, drop}
use Rattle.std.specs.String.{string_bytes}
use Rattle.deno_graph_json.specs.declared.error.Step.{Step}
use Rattle.modinfo_document.specs.Place.{node_path, path_below}
use Rattle.modinfo_document.specs.Pointer.{pointer_text}
use Rattle.modinfo_document.proofs.report.place.node_pointer.Given as goal

abbrev pub invariant-loop-number : goal.invariant-loop-number
invariant-loop-number l = (path : List Step) × (string_bytes l.pointer ≡ pointer_text path)
    × (path_below path (drop l.number-index l.rest) ≡ node_path l.fn.path)
