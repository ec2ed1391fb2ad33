-- Members found by their names.
use Rattle.std.specs.Prelude.{◌≡◌, ℕ, List, [], ◌∷◌, Option, option_map}
use Rattle.std.specs.Borrow.{Bor}
use Rattle.serde_json.specs.Data.{Members}
use Rattle.serde_json.specs.Find.{get_member}
use Rattle.deno_graph_json.specs.Data.{data_of}
use Rattle.deno_graph_json.specs.declared.flat.Element.{Element}

-- each element is the member that has the name with the same index, or none if no member has the name
abbrev pub AreFound : List (Bor (List ℕ)) → Members → List (Option Element) → Type 0
AreFound [] ms elements = Unit {0}
AreFound (name ∷ names) ms [] = Unit {0}
AreFound (name ∷ names) ms (element ∷ elements) =
    (option_map data_of element ≡ get_member name.now ms) × AreFound names ms elements
