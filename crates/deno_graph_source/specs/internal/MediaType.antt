-- Tables of the code.
use Rattle.std.specs.Prelude.{ℕ, List, map}
use Rattle.std.specs.Borrow.{Bor}
use Rattle.deno_graph_source.specs.declared.tree.media_type.MediaType.{MediaType}

-- A table of borrowed texts, with the texts as bytes.
abbrev pub entries : List (Bor (List ℕ) × MediaType) → List (List ℕ × MediaType)
entries table = map (λ entry. (entry.0.now, entry.1)) table
