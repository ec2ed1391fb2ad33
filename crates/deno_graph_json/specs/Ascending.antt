-- Lists of entries whose keys ascend.
use Rattle.std.specs.Prelude.{ℕ, List, [], ◌∷◌, Bool, true, ◌&&◌}
use Rattle.std.specs.Cmp.Lexicographic.{slice_cmp}
use Rattle.std.specs.Ordering.{nat_cmp, is_lt}
use Rattle.deno_graph_json.specs.Object.{Entry}

-- whether the key is below the key of each entry, compared byte by byte
abbrev pub is_below : List ℕ → List Entry → Bool
is_below k [] = true
is_below k (e ∷ es) = is_lt (slice_cmp nat_cmp k e.0) && is_below k es

-- whether each key is below those after it
abbrev pub has_ascending_keys : List Entry → Bool
has_ascending_keys [] = true
has_ascending_keys (e ∷ es) = is_below e.0 es && has_ascending_keys es
