-- The tokens of a report's members.
use Rattle.std.specs.Prelude.{ℕ, List, [], ◌∷◌, Option, Some, None}
use Rattle.json.specs.Json.{Json}
use Rattle.json.specs.Token.{Token, key}
use Rattle.json.specs.Tree.{json_tokens}

-- The tokens of a member, or none if there is no value.
abbrev pub member_tokens : List ℕ → Option Json → List Token
member_tokens name None = []
member_tokens name (Some value) = key name ∷ json_tokens value
