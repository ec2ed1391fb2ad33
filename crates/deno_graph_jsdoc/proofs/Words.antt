-- Words of ASCII, by their bytes and by their characters.
use Rattle.std.proofs.Common.{◌≡◌, ℕ, Bool, true, false, cond, List, Option, Some, None, ◌++◌, ◌∷◌, [], refl}
use Rattle.std.proofs.Common.{sym, ap, ◌∙◌, codes, option_map, ltb}
use Rattle.std.proofs.lemmas.Bool.{and_parts, ltb-true}
use Rattle.std.proofs.lemmas.Bool.Decides.{Decides-like, same_from_decides}
use Rattle.std.proofs.lemmas.List.Folds.{find-append}
use Rattle.std.proofs.lemmas.Slice.Eq.{bytes_eq-Decides}
use Rattle.std.proofs.lemmas.Str.{chars-IsAscii, encodes-IsAscii, encodes-chars}
use Rattle.std.proofs.lemmas.Str.Ascii.{IsAscii-nil, IsAscii-cons}
use Rattle.std.specs.Bool.{then_some}
use Rattle.std.specs.List.{find, list_all}
use Rattle.std.specs.Option.{option_or}
use Rattle.std.specs.Str.{IsAscii, IsUtf8, bytes_eq, chars}
use denote.Ref.{Bor}
use lib.Utf8.{encodes}
use Rattle.deno_graph_jsdoc.specs.JsDocGrammar.{Attribute, resolution_mode_value}
use Rattle.deno_graph_jsdoc.specs.internal.Reading.{chars_of}
use Rattle.deno_graph_base.specs.ResolutionMode.{mode_named}
use Rattle.deno_graph_base.specs.declared.values.resolution_mode.TypeScriptTypesResolutionMode.TheVariants.{Require}
use Rattle.deno_graph_base.specs.declared.values.resolution_mode.TypeScriptTypesResolutionMode.TheVariants.{Import}

-- whether a text is a word
pub bytes_eq-chars : (text word : List ℕ) → IsUtf8 text → IsAscii word
    → bytes_eq (chars text) word ≡ bytes_eq text word
bytes_eq-chars text word utf8 ascii =
    same_from_decides (bytes_eq (chars text) word) (bytes_eq text word)
    (Decides-like (bytes_eq (chars text) word)
    (λ is. sym (encodes-chars text utf8) ∙ ap encodes is ∙ encodes-IsAscii word ascii)
    (λ is. ap chars is ∙ chars-IsAscii word ascii) (bytes_eq-Decides (chars text) word))
    (bytes_eq-Decides text word)

pub IsAscii-from_test : (word : List ℕ) → list_all (λ c. ltb c 128) word ≡ true → IsAscii word
IsAscii-from_test [] all = IsAscii-nil
IsAscii-from_test (c ∷ cs) all =
    let both = and_parts (ltb c 128) (list_all (λ c. ltb c 128) cs) all in
    IsAscii-cons c cs (ltb-true c 128 both.0) (IsAscii-from_test cs both.1)

-- the mode that a text names, by its characters and by its bytes
pub mode_named-chars : (text : List ℕ) → IsUtf8 text → mode_named (chars text) ≡ mode_named text
mode_named-chars text utf8 =
    let as_import = bytes_eq-chars text (codes "import") utf8 (IsAscii-from_test (codes "import") refl) in
    let as_require = bytes_eq-chars text (codes "require") utf8 (IsAscii-from_test (codes "require") refl) in
    λ i. cond (as_import i) (Some Import) (cond (as_require i) (Some Require) None)

-- the name of the mode after more attributes
abbrev is_mode : Attribute → Bool
is_mode attribute = bytes_eq attribute.key (codes "resolution-mode")

mode_name-append : (before others : List Attribute) → resolution_mode_value (before ++ others)
    ≡ option_map (λ (a : Attribute). a.value) (option_or (find is_mode before) (find is_mode others))
mode_name-append before others =
    ap (option_map (λ (a : Attribute). a.value)) (find-append is_mode before others)

pub mode_name-kept : (before others : List Attribute) (name : List ℕ)
    → Some name ≡ resolution_mode_value before → Some name ≡ resolution_mode_value (before ++ others)
mode_name-kept before others name is = by_found (find is_mode before) is
    ∙ sym (mode_name-append before others)
  where
    by_found : (found : Option Attribute) → Some name ≡ option_map (λ (a : Attribute). a.value) found
        → Some name ≡ option_map (λ (a : Attribute). a.value) (option_or found (find is_mode others))
    by_found None is = absurd (cc)
    by_found (Some a) is = is

pub mode_name-later : (before others : List Attribute) → None ≡ resolution_mode_value before
    → resolution_mode_value others ≡ resolution_mode_value (before ++ others)
mode_name-later before others is = by_found (find is_mode before) is ∙ sym (mode_name-append before others)
  where
    by_found : (found : Option Attribute) → None ≡ option_map (λ (a : Attribute). a.value) found
        → resolution_mode_value others
        ≡ option_map (λ (a : Attribute). a.value) (option_or found (find is_mode others))
    by_found None is = refl
    by_found (Some a) is = absurd (cc)

pub mode_name-first : (before : List Attribute) (attribute : Attribute) (test : Bool)
    → None ≡ resolution_mode_value before → test ≡ is_mode attribute
    → cond test (Some attribute.value) None ≡ resolution_mode_value (before ++ attribute ∷ [])
mode_name-first before attribute test is tested =
    ap (λ t. cond t (Some attribute.value) None) tested ∙ by_test (is_mode attribute)
    ∙ mode_name-later before (attribute ∷ []) is
  where
    by_test : (t : Bool) → cond t (Some attribute.value) None ≡ option_map (λ (a : Attribute). a.value)
        (cond t (Some attribute) None)
    by_test true = refl
    by_test false = refl

pub is_mode-chars : (key : List ℕ) → IsUtf8 key
    → bytes_eq (chars key) (codes "resolution-mode") ≡ bytes_eq key (codes "resolution-mode")
is_mode-chars key utf8 =
    bytes_eq-chars key (codes "resolution-mode") utf8 (IsAscii-from_test (codes "resolution-mode") refl)

pub chars_of-then_some : (test : Bool) (value : Bor (List ℕ))
    → chars_of (then_some test value) ≡ cond test (Some (chars value.now)) None
chars_of-then_some true value = refl
chars_of-then_some false value = refl
