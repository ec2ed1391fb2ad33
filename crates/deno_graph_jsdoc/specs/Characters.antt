-- The characters that definitions and proofs name.
use Rattle.std.specs.Prelude.{ℕ}

-- `"`
abbrev pub double_quote : ℕ
double_quote = 34

-- `'`
abbrev pub apostrophe : ℕ
apostrophe = 39

-- `,`
abbrev pub comma : ℕ
comma = 44

-- `-`
abbrev pub hyphen : ℕ
hyphen = 45

-- `:`
abbrev pub colon : ℕ
colon = 58

-- `@`
abbrev pub at_sign : ℕ
at_sign = 64

-- `{`
abbrev pub opening_brace : ℕ
opening_brace = 123

-- `}`
abbrev pub closing_brace : ℕ
closing_brace = 125
