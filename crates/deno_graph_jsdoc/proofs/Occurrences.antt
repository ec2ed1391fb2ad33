-- A text has more occurrences of a word than the text after one of them.
use Rattle.std.proofs.Common.{◌≡◌, ℕ, ◌+◌, ◌≤◌, List, [], ◌∷◌, ◌++◌, ap, arith}
use Rattle.deno_graph_jsdoc.specs.JsDocImports.{occurrences}
use Rattle.deno_graph_jsdoc.proofs.Sites.{word}

occurrences-append : (front back : List ℕ) → occurrences word back ≤ occurrences word (front ++ back)
occurrences-append [] back = omega arith
occurrences-append (c ∷ front) back =
    let more = occurrences-append front back in omega (arith, more)

occurrences-word : (back : List ℕ) → 1 + occurrences word back ≤ occurrences word (word ++ back)
occurrences-word back = omega arith

pub occurrences-after : (text before after : List ℕ) → text ≡ before ++ (word ++ after)
    → 1 + occurrences word after ≤ occurrences word text
occurrences-after text before after is =
    omega
    (arith, ap (occurrences word) is, occurrences-append before (word ++ after), occurrences-word after)
