-- The steps of reading a text: the value that was read, and the tokens that are left.
use Rattle.std.specs.Prelude.{◌≡◌, ℕ, ◌≤◌, List, ◌++◌, map, IsTrue}
use Rattle.std.specs.List.{list_all}
use Rattle.json.specs.Json.{Json}
use Rattle.json.specs.Token.{Token}
use Rattle.json.specs.Tree.{json_tokens, depth}
use Rattle.deno_graph_json.specs.Flat.{plain, flat_list, token_fits}
use Rattle.deno_graph_json.specs.declared.flat.FlatNode.{FlatNode}

-- The tokens are those of a value, which nests at most `most` deep, followed by the rest.
abbrev pub IsAhead : ℕ → Json → List Token → List Token → Type 0
IsAhead most j ahead rest = (ahead ≡ json_tokens j ++ rest) × (depth j ≤ most)
    × IsTrue (list_all token_fits (json_tokens j))

-- the tokens don't begin with such a value
abbrev pub NoneAhead : ℕ → List Token → Type 0
NoneAhead most ahead = (j : Json) → (rest : List Token) → IsAhead most j ahead rest → ⊥

-- such a value was read, and its flat list was appended to the nodes
abbrev pub IsPut : ℕ → List Token → List Token → List FlatNode → List FlatNode → Type 0
IsPut most ahead rest old new =
    (j : Json) × IsAhead most j ahead rest × (map plain new ≡ map plain old ++ flat_list j)
