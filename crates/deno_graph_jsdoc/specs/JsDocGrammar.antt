-- The parts of a JSDoc import, as sets of texts. A text is its list of characters.
use Rattle.std.specs.Prelude.{◌≡◌, ◌≢◌, ◌==◌, ◌<◌, ◌⊎◌, ◌||◌, ℕ, Bool, true, false, Option, None, List, []}
use Rattle.std.specs.Prelude.{◌∷◌, ◌++◌, length, codes, option_and_then, option_map}
use Rattle.std.specs.Char.{is_whitespace}
use Rattle.std.specs.Char.Unicode.Alphabetic.{is_alphabetic}
use Rattle.std.specs.List.{AllByRecursion, find}
use Rattle.std.specs.Str.{bytes_eq}
use Rattle.deno_graph_jsdoc.specs.Characters.{double_quote, apostrophe, hyphen, colon, closing_brace}
use Rattle.deno_graph_base.specs.ResolutionMode.{mode_named}
use Rattle.deno_graph_base.specs.declared.values.resolution_mode.TypeScriptTypesResolutionMode.{TypeScriptTypesResolutionMode}

-- a text of `P` and then a text of `Q`
infixr 6 ◌·◌
pub record ◌·◌ (P Q : List ℕ → Type 0) (text : List ℕ) : Type 0 where
  pub front : List ℕ
  pub back : List ℕ
  pub whole : text ≡ front ++ back
  pub is_front : P front
  pub is_back : Q back

-- `input` is a text of `P` and then `rest`
pub record Begins (P : List ℕ → Type 0) (input rest : List ℕ) : Type 0 where
  pub piece : List ℕ
  pub whole : input ≡ piece ++ rest
  pub is : P piece

-- any text
abbrev pub Anything : List ℕ → Type 0
Anything text = Unit {0}

-- the text is empty or begins with a character that has `P`
abbrev pub EmptyOr : (ℕ → Type 0) → List ℕ → Type 0
EmptyOr P [] = Unit {0}
EmptyOr P (c ∷ cs) = P c

-- the text is empty or begins with a character other than white space
abbrev pub NoSpace : List ℕ → Type 0
NoSpace text = EmptyOr (λ c. is_whitespace c ≡ false) text

-- the text `word`
abbrev pub Is : List ℕ → List ℕ → Type 0
Is word text = text ≡ word

-- white space, or nothing
abbrev pub IsSpace : List ℕ → Type 0
IsSpace text = AllByRecursion (λ c. is_whitespace c ≡ true) text

-- white space
abbrev pub IsGap : List ℕ → Type 0
IsGap text = IsSpace text × (0 < length text)

-- any characters but `mark`
abbrev pub Lacks : ℕ → List ℕ → Type 0
Lacks mark text = AllByRecursion (λ c. c ≢ mark) text

-- `inside` between two marks; `inside` has no mark
abbrev pub IsBetween : ℕ → List ℕ → List ℕ → Type 0
IsBetween mark inside text = Lacks mark inside × (text ≡ mark ∷ inside ++ mark ∷ [])

-- `inside` between two `"`, or between two `'`
abbrev pub IsQuote : List ℕ → List ℕ → Type 0
IsQuote inside text = IsBetween double_quote inside text ⊎ IsBetween apostrophe inside text

-- what ends an identifier: white space, `:` or `-`
abbrev pub ends_ident : ℕ → Bool
ends_ident c = is_whitespace c || (c == colon || c == hyphen)

-- an Alphabetic character, and then any that don't end an identifier
abbrev pub IsIdent : List ℕ → Type 0
IsIdent [] = ⊥
IsIdent (c ∷ cs) = (is_alphabetic c ≡ true) × AllByRecursion (λ d. ends_ident d ≡ false) cs

-- a key: a quoted text or an identifier
abbrev pub IsKey : List ℕ → List ℕ → Type 0
IsKey key text = IsQuote key text ⊎ (IsIdent text × (key ≡ text))

pub record Attribute : Type 0 where
  pub key : List ℕ
  pub value : List ℕ

abbrev pub IsAttribute : Attribute → List ℕ → Type 0
IsAttribute attribute = IsKey attribute.key · IsSpace · Is (codes ":") · IsSpace · IsQuote attribute.value

-- attributes, each after a comma
abbrev pub AreFurther : List Attribute → List ℕ → Type 0
AreFurther [] = Is []
AreFurther (attribute ∷ others) =
    IsSpace · Is (codes ",") · IsSpace · IsAttribute attribute · AreFurther others

-- attributes with commas between them, and none after the last; or nothing
abbrev pub AreAttributes : List Attribute → List ℕ → Type 0
AreAttributes [] = Is []
AreAttributes (attribute ∷ others) = IsAttribute attribute · AreFurther others

-- attributes in braces
abbrev pub IsBlock : List Attribute → List ℕ → Type 0
IsBlock attributes = Is (codes "{") · IsSpace · AreAttributes attributes · IsSpace · Is (codes "}")

-- the value of the first `resolution-mode`
abbrev pub resolution_mode_value : List Attribute → Option (List ℕ)
resolution_mode_value attributes =
    option_map (λ attribute. attribute.value)
    (find (λ attribute. bytes_eq attribute.key (codes "resolution-mode")) attributes)

-- the mode that the value of the first `resolution-mode` names, if it names one
abbrev pub mode_of : List Attribute → Option TypeScriptTypesResolutionMode
mode_of attributes = option_and_then mode_named (resolution_mode_value attributes)

-- a block of attributes with this mode, or with none
abbrev pub IsModeBlock : Option TypeScriptTypesResolutionMode → List ℕ → Type 0
IsModeBlock mode text = (attributes : List Attribute) × (mode ≡ mode_of attributes) × IsBlock attributes text

-- what is imported: names in braces, everything under one name, or the default
abbrev pub IsNames : List ℕ → Type 0
IsNames = Is (codes "{") · Lacks closing_brace · Is (codes "}")

abbrev pub IsName : List ℕ → Type 0
IsName = IsIdent · IsGap

abbrev pub IsNamespace : List ℕ → Type 0
IsNamespace = Is (codes "*") · IsSpace · Is (codes "as") · IsGap · IsIdent · IsGap

abbrev pub IsClause : List ℕ → Type 0
IsClause text = IsNames text ⊎ (IsNamespace text ⊎ IsName text)

-- the attributes of a declaration
abbrev pub IsWith : Option TypeScriptTypesResolutionMode → List ℕ → Type 0
IsWith mode = Is (codes "with") · IsSpace · IsModeBlock mode

-- the second argument of a dynamic import, with the comma before it
abbrev pub IsOptions : Option TypeScriptTypesResolutionMode → List ℕ → Type 0
IsOptions mode =
    Is (codes ",") · IsSpace · Is (codes "{") · IsSpace · Is (codes "with") · IsSpace · Is (codes ":")
    · IsSpace · IsModeBlock mode · IsSpace · Is (codes "}")

-- the second argument with its comma, or nothing and no mode
abbrev pub IsSecond : Option TypeScriptTypesResolutionMode → List ℕ → Type 0
IsSecond mode text = IsOptions mode text ⊎ ((text ≡ []) × (mode ≡ None))

-- a text without `}` that ends with `word` and has no earlier `word`
pub record IsUpTo (word text : List ℕ) : Type 0 where
  pub front : List ℕ
  pub whole : text ≡ front ++ word
  pub unclosed : Lacks closing_brace front
  pub first : (before after : List ℕ) → text ≡ before ++ (word ++ after) → after ≡ []
