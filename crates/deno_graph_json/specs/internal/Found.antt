-- Members found by their names, one after another.
use Rattle.std.specs.Prelude.{ℕ, List, [], ◌∷◌, Option, Some, bytes_eq, if◌then◌else◌}
use Rattle.std.specs.Borrow.{Bor}
use Rattle.deno_graph_json.specs.declared.flat.Element.{Element}

-- the elements, after a member with this name and value
abbrev pub after_member : List (Bor (List ℕ)) → List ℕ → Element → List (Option Element)
    → List (Option Element)
after_member [] key value elements = elements
after_member (name ∷ names) key value [] = []
after_member (name ∷ names) key value (element ∷ elements) =
    (if bytes_eq key name.now then Some value else element) ∷ after_member names key value elements
