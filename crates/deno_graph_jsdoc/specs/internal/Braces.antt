-- The closing braces of a text, and the cache of the next one.
use Rattle.std.specs.Prelude.{◌≡◌, ◌≤◌, ◌⊎◌, ◌↔◌, ℕ, Option, IfSome, List, ◌∷◌, ◌++◌, codes, option_map}
use Rattle.std.specs.Str.{IsUtf8, chars, skip_leading_whitespace}
use Rattle.deno_graph_jsdoc.specs.Characters.{closing_brace}
use Rattle.deno_graph_jsdoc.specs.JsDocGrammar.{◌·◌, Anything, Is, Lacks}
use Rattle.deno_graph_jsdoc.specs.internal.Reading.{IsSource, Reads, ReadsImport, rest_and_import}
use Rattle.deno_graph_jsdoc.specs.JsDocImport.{byte_count}
use Rattle.deno_graph_jsdoc.specs.declared.import.JsDocImport.{JsDocImport}
use Rattle.deno_graph_jsdoc.specs.declared.grammar.declaration.NamesEnd.{NamesEnd}

-- an end of the text has no `}` exactly if it takes at most `count` bytes
abbrev pub IsUnclosed : List ℕ → ℕ → Type 0
IsUnclosed text count =
    (front back : List ℕ) → text ≡ front ++ back → (byte_count back ≤ count) ↔ Lacks closing_brace back

-- `after` follows the first `}` of the text, or the text is an end of `after`
abbrev pub IsAfterBrace : List ℕ → List ℕ → Type 0
IsAfterBrace after text =
    ((inside : List ℕ) × Lacks closing_brace inside × (text ≡ inside ++ closing_brace ∷ after))
    ⊎ ((front : List ℕ) × (after ≡ front ++ text))

-- the range of the specifier is ordered, and ends within `count` bytes
abbrev pub IsWithin : JsDocImport → ℕ → Type 0
IsWithin import count =
    (import.specifier_range.start ≤ import.specifier_range.end) × (import.specifier_range.end ≤ count)

-- `from` is `after` without its leading white space, and `source` is the import at the start of `from`
pub record IsNamesEnd (end : NamesEnd) : Type 0 where
  pub utf8 : IsUtf8 end.after.now
  pub from : chars end.from.now ≡ skip_leading_whitespace (chars end.after.now)
  pub from_utf8 : IsUtf8 end.from.now
  pub source : ReadsImport IsSource (chars end.from.now) (rest_and_import end.source)

-- the text after the cached `}`, as the result of a parser of the text up to the `}`
abbrev pub rest_of_end : Option NamesEnd → Option (List ℕ × Unit {0})
rest_of_end cache = option_map (λ end. (chars end.after.now, tt)) cache

-- the cache has the next `}` of the text, or is None if there is none
pub record IsNextEnd (text : List ℕ) (cache : Option NamesEnd) : Type 0 where
  pub is_end : IfSome cache IsNamesEnd
  pub is_next : Reads Anything
      (λ (_ : Unit {0}). Lacks closing_brace · Is (codes "}")) text (rest_of_end cache)

-- the cache has the next `}` of the text, or a `}` before the text, or is None
abbrev pub Keeps : List ℕ → Option NamesEnd → Type 0
Keeps text cache = IfSome cache (λ end. IsNamesEnd end × IsAfterBrace (chars end.after.now) text)
