use Rattle.std.proofs.Common.{◌≡◌, drop}
use Rattle.deno_graph_source.specs.MediaType.{in_table}
use Rattle.deno_graph_source.specs.internal.MediaType.{entries}
use Rattle.deno_graph_source.proofs.tree.media_type.table.look_up.Given as goal

-- the keys so far are others
abbrev pub invariant-loop-key : goal.invariant-loop-key
invariant-loop-key l =
    in_table (entries l.fn.table) l.text ≡ in_table (entries (drop l.key-index l.table)) l.text
