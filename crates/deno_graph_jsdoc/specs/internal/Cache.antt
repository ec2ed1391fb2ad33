-- The caches of a text: lists of attributes and white space that were read before a pass.
use Rattle.std.specs.Prelude.{◌≡◌, ℕ, List, ◌++◌}
use Rattle.std.specs.List.{All}
use Rattle.std.specs.Str.{chars, skip_leading_whitespace}
use Rattle.deno_graph_jsdoc.specs.JsDocGrammar.{Anything}
use Rattle.deno_graph_jsdoc.specs.internal.Reading.{IsModeBlockEnd, Reads, rest_and_mode}
use Rattle.deno_graph_jsdoc.specs.JsDocImport.{byte_count}
use Rattle.deno_graph_jsdoc.specs.declared.grammar.cached_lists.CachedList.{CachedList}
use Rattle.deno_graph_jsdoc.specs.declared.grammar.cached_spaces.CachedSpace.{CachedSpace}

-- the end of the text that takes `left` bytes has `P`, if there is such an end
abbrev pub OfEnd : ℕ → (List ℕ → Type 0) → List ℕ → Type 0
OfEnd left P text = (front back : List ℕ) → text ≡ front ++ back → byte_count back ≡ left → P back

-- the cached list is what a parser of attributes reads of that end of the text
abbrev pub IsCached : List ℕ → CachedList → Type 0
IsCached text list =
    OfEnd list.left (λ back. Reads Anything IsModeBlockEnd back (rest_and_mode list.read)) text

abbrev pub AreCached : List ℕ → List CachedList → Type 0
AreCached text cache = All (IsCached text) cache

-- the cached rest follows the white space at the start of that end of the text
abbrev pub IsCachedSpace : List ℕ → CachedSpace → Type 0
IsCachedSpace text space = OfEnd space.left (λ back. chars space.rest.now ≡ skip_leading_whitespace back) text

abbrev pub AreCachedSpaces : List ℕ → List CachedSpace → Type 0
AreCachedSpaces text cache = All (IsCachedSpace text) cache
