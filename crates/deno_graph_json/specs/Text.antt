-- JSON text as a list of tokens.
use Rattle.std.specs.Prelude.{ℕ, List, ◌∷◌, ◌++◌}
use Rattle.json.specs.Token.{Token, key}
use Rattle.json.specs.Tree.{json_tokens}
use Rattle.json.specs.Written.{Written}
use Rattle.serde_json.specs.Data.{Data}
use Rattle.serde_json.specs.Written.{outline}

-- the tokens of a value's compact text
abbrev pub text_tokens : Data → List Token
text_tokens d = json_tokens (outline d)

-- what the buffer of a writer held at the start, and the tokens after it
abbrev pub Text : Type 0
Text = List ℕ × List Token

abbrev pub text_in : Written → Text
text_in w = (w.before, w.tokens)

-- the text, followed by tokens
abbrev pub with_tokens : List Token → Text → Text
with_tokens more text = (text.0, text.1 ++ more)

-- the text, followed by a member
abbrev pub with_member_text : List ℕ → Data → Text → Text
with_member_text k d = with_tokens (key k ∷ text_tokens d)
