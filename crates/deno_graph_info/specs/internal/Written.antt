-- Text that was appended to a writer.
use Rattle.std.specs.Prelude.{◌≡◌, List, [], ◌∷◌, ◌++◌}
use Rattle.json.specs.Token.{Token, key}
use Rattle.serde_json.specs.Data.{Data, Items, Members, no_members, member}
use Rattle.serde_json.specs.Written.{blank, blank_items, blank_members, items_outline, members_outline}
use Rattle.serde_json.specs.Written.{outline}
use Rattle.deno_graph_json.specs.Text.{Text, text_tokens, with_tokens}

-- No number that is held as a whole number has a text that reads as a float.
abbrev pub IsFloatless : Data → Type 0
IsFloatless d = blank (outline d) ≡ outline d

abbrev pub AreFloatlessItems : Items → Type 0
AreFloatlessItems ds = blank_items (items_outline ds) ≡ items_outline ds

abbrev pub AreFloatless : Members → Type 0
AreFloatless ms = blank_members (members_outline ms) ≡ members_outline ms

-- the compact text of the value was appended
abbrev pub IsWritten : Data → Text → Text → Type 0
IsWritten d old new = (new ≡ with_tokens (text_tokens d) old) × IsFloatless d

-- the tokens of members, without the braces of the object
abbrev pub member_tokens : Members → List Token
member_tokens no_members = []
member_tokens (member k d ms) = key k ∷ (text_tokens d ++ member_tokens ms)

-- the compact text of the members was appended, without the braces of the object
abbrev pub AreWritten : Members → Text → Text → Type 0
AreWritten ms old new = (new ≡ with_tokens (member_tokens ms) old) × AreFloatless ms
